-- What a status says.
use Rattle.std.proofs.Common.{◌≡◌, inl, inr, ℕ, ◌<◌, List, [], ◌++◌, length, Option, Some, None, sym, ap, ◌∙◌, subst, arith, append-nil, length-append}
use Rattle.std.specs.Prelude.{◌⊎◌}
use Rattle.apex_io.specs.Outside.{Rose, Outgrows}
use Rattle.commands.specs.declared.answer.Answer.{Answer}
use Rattle.commands.specs.declared.answer.Answer.TheVariants.{Done, ReadFault, WriteFault, NoMemory, TooLong, Refused}
use Rattle.commands.specs.declared.answer.Made.{Made}
use Rattle.commands.specs.declared.answer.Made.TheVariants.{Text, Line}
use Rattle.commands.specs.Answers.{most_bytes, status_of, ReadWhole, NotRead, Written, Outside, IsFine, Makes, Cause, Answered}

-- what was read whole are the bytes that were told
whole_told : (left later : Option (List ℕ)) (read bytes : List ℕ) → ReadWhole left later read → left ≡ Some bytes → read ≡ bytes
whole_told None later read bytes w e = cc
whole_told (Some l) None read bytes w e = absurd w.takes
whole_told (Some l) (Some rest) read bytes w e =
    let t : l ≡ read ++ rest = w.takes in
    let n : rest ≡ [] = w.at_end in
    let s : l ≡ bytes = cc in
    sym (sym s ∙ t ∙ ap (λ x. read ++ x) n ∙ append-nil read)

outgrown : (left later : Option (List ℕ)) (bytes : List ℕ) → Outgrows most_bytes left later → left ≡ Some bytes → most_bytes < length bytes
outgrown None later bytes o e = cc
outgrown (Some l) None bytes o e = absurd o.2
outgrown (Some l) (Some rest) bytes o e =
    let t : l ≡ o.0 ++ rest = o.2 in
    let s : l ≡ bytes = cc in
    let n = length-append o.0 rest in
    let m : length bytes ≡ length (o.0 ++ rest) = ap length (sym s ∙ t) in
    let k = o.1 in
    omega arith

module _ (Runs Refuses : List ℕ → List ℕ → Type 0) where
  -- nothing was read, and nothing is written
  pub unread : (a : Answer) (s : Outside) → NotRead a s.left s.later s.read_faults s.read_faults_later → s.held_later ≡ s.held → Cause Runs Refuses a s
  unread Done s n h = absurd n
  unread ReadFault s n h = (n, h)
  unread WriteFault s n h = absurd n
  unread NoMemory s n h = h
  unread TooLong s n h = (n, h)
  unread Refused s n h = absurd n

  -- what was made of the bytes that were read is written
  pub wrote : (a : Answer) (s : Outside) (bytes : List ℕ) (made : Made) → ReadWhole s.left s.later bytes → Makes Runs Refuses bytes made → Written a made s.held s.held_later s.write_faults s.write_faults_later → Cause Runs Refuses a s
  wrote a s bytes (Text text) w m (inl d) = subst (λ x. Cause Runs Refuses x s) (sym d.0) (bytes, text, w, m, d.1)
  wrote a s bytes (Text text) w m (inr d) = subst (λ x. Cause Runs Refuses x s) (sym d.0) (bytes, text, w, inl m, d.1)
  wrote a s bytes (Line line) w m (inl d) = subst (λ x. Cause Runs Refuses x s) (sym d.0) (bytes, line, w, m, d.1)
  wrote a s bytes (Line line) w m (inr d) = subst (λ x. Cause Runs Refuses x s) (sym d.0) (bytes, line, w, inr m, d.1)

-- a command runs its inputs and no others
module _ (Runs Refuses : List ℕ → List ℕ → Type 0) (refused : ℕ) (Input : List ℕ → Type 0) (runs : (bytes text : List ℕ) → Runs bytes text → Input bytes) (none : (bytes line : List ℕ) → Refuses bytes line → Input bytes → ⊥) (s : Outside) (status : ℕ) where
  complete_of : (a : Answer) → status ≡ status_of refused a → Cause Runs Refuses a s → (bytes : List ℕ) → IsFine bytes s → Input bytes → (status ≡ 0) ⊎ (status ≡ 5)
  complete_of Done is c bytes f i = inl is
  complete_of NoMemory is c bytes f i = inr is
  complete_of ReadFault is c bytes f i = absurd (f.reads c.0)
  complete_of TooLong is c bytes f i = let n = outgrown s.left s.later bytes c.0 f.told in let m = f.within in absurd (omega arith)
  complete_of Refused is c bytes f i = absurd (none c.0 c.1 c.3 (subst Input (sym (whole_told s.left s.later c.0 bytes c.2 f.told)) i))
  complete_of WriteFault is c bytes f i = absurd (f.writes c.4.0)

  refuses_of : (a : Answer) → status ≡ status_of refused a → Cause Runs Refuses a s → (bytes : List ℕ) → IsFine bytes s → (Input bytes → ⊥) → (status ≡ refused) ⊎ (status ≡ 5)
  refuses_of Done is c bytes f n = absurd (n (subst Input (whole_told s.left s.later c.0 bytes c.2 f.told) (runs c.0 c.1 c.3)))
  refuses_of NoMemory is c bytes f n = inr is
  refuses_of ReadFault is c bytes f n = absurd (f.reads c.0)
  refuses_of TooLong is c bytes f n = let m = outgrown s.left s.later bytes c.0 f.told in let k = f.within in absurd (omega arith)
  refuses_of Refused is c bytes f n = inl is
  refuses_of WriteFault is c bytes f n = absurd (f.writes c.4.0)

  fits_told : (read bytes : List ℕ) → ReadWhole s.left s.later read → s.left ≡ Some bytes → most_bytes < length bytes → ⊥
  fits_told read bytes w e lt =
      let same : length read ≡ length bytes = ap length (whole_told s.left s.later read bytes w e) in
      let k = w.within in
      omega arith

  too_long_of : (a : Answer) → status ≡ status_of refused a → Cause Runs Refuses a s → (bytes : List ℕ) → s.left ≡ Some bytes → most_bytes < length bytes → (Rose s.read_faults s.read_faults_later → ⊥) → (status ≡ 6) ⊎ (status ≡ 5)
  too_long_of Done is c bytes e lt n = absurd (fits_told c.0 bytes c.2 e lt)
  too_long_of NoMemory is c bytes e lt n = inr is
  too_long_of ReadFault is c bytes e lt n = absurd (n c.0)
  too_long_of TooLong is c bytes e lt n = inl is
  too_long_of Refused is c bytes e lt n = absurd (fits_told c.0 bytes c.2 e lt)
  too_long_of WriteFault is c bytes e lt n = absurd (fits_told c.0 bytes c.2 e lt)

  pub answered_of : (a : Answer) → status ≡ status_of refused a → Cause Runs Refuses a s → Answered Runs Refuses refused Input status s
  answered_of a is c = record {
    answer = a;
    is = is;
    cause = c;
    complete = complete_of a is c;
    refuses = refuses_of a is c;
    too_long = too_long_of a is c;
  }
