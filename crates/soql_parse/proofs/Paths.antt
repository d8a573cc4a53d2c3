-- The names of a path, one after the other.
use Rattle.std.specs.Prelude.{◌≡◌, ℕ, zero, suc, ◌+◌, List, [], ◌∷◌, ◌++◌, length, Ok, Err}
use Rattle.std.proofs.Common.{inl, inr, refl, sym, subst, ap, ◌∙◌, arith, append_assoc, length-append}
use Rattle.apex_lexer.specs.declared.token.Token.{Token}
use Rattle.apex_lexer.specs.declared.token.Sign.TheVariants.{Dot}
use Rattle.apex_lexer.specs.declared.token.TokenKind.TheVariants.{Sign as IsSign}
use Rattle.apex_syntax.specs.declared.word.Word.{Word}
use Rattle.token_grammar.specs.declared.read.Names.TheVariants.{AllWords}
use Rattle.token_grammar.specs.declared.fault.ParseWord.{ParseWord}
use Rattle.token_grammar.specs.declared.fault.ParseWord.TheVariants.{TooManyLevels}
use Rattle.token_grammar.specs.declared.fault.Stop.{Stop}
use Rattle.token_grammar.specs.declared.fault.Stop.TheVariants.{At, NoMemory}
use Rattle.token_grammar.specs.Notation.{Reads, Stops, seen}
use Rattle.token_grammar.specs.Readings.{Told, Passed}
use Rattle.token_grammar.specs.Tokens.{next_sign, name}
use Rattle.token_grammar.proofs.Chain.{next, past, halt, stuck, gives, refuses, one_way, other_way, no_memory}
use Rattle.soql_parse.specs.Queries.{links, names}

-- from here on the reading of a path's links goes on with `more` links at the most, behind the names that were read
pub record Linked (tokens : List Token) (start at : ℕ) (first : Word) (all : List Word) (here : ℕ) : Type 0 where
  pub rest : List Word
  pub more : ℕ
  pub is : all ≡ first ∷ rest
  pub count : length rest + more ≡ 5
  pub reads : (xs : List Word) (end : ℕ) → Reads (seen tokens) (links start more) here xs end → Reads (seen tokens) (links start 5) at (rest ++ xs) end
  pub stops : (w : ParseWord) (p : ℕ) → Stops (seen tokens) (links start more) here w p → Stops (seen tokens) (links start 5) at w p

pub links_begun : {tokens : List Token} {start at : ℕ} {first : Word} {all : List Word} → all ≡ first ∷ [] → Linked tokens start at first all at
links_begun e = record { rest = []; more = 5; is = e; count = refl; reads = λ xs end h. h; stops = λ w p h. h }

links_err : (tokens : List Token) (start at here : ℕ) (first : Word) (all : List Word) (e : Stop) → (l : Linked tokens start at first all here) → Told tokens (links start l.more) here (Err e) → Told tokens (names start first) at (Err e)
links_err tokens start at here first all (At w p) l h = record { by = inl (l.stops w p h.by) }
links_err tokens start at here first all NoMemory l h = no_memory

links_ok : (tokens : List Token) (start at here end : ℕ) (first : Word) (all xs : List Word) → (l : Linked tokens start at first all here) → Told tokens (links start l.more) here (Ok (xs, end)) → Told tokens (names start first) at (Ok (all ++ xs, end))
links_ok tokens start at here end first all xs l h =
    subst (λ z. Told tokens (names start first) at (Ok (z ++ xs, end))) (sym l.is)
    (next (record { by = l.reads xs end h.by }) gives)

-- no dot follows
no_link : (tokens : List Token) (start here more : ℕ) → (next_sign Dot (seen tokens) here → ⊥) → Told tokens (links start more) here (Ok ([], here))
no_link tokens start here zero n = other_way n gives
no_link tokens start here (suc more) n = other_way n gives

pub links_ended : {tokens : List Token} {start at here : ℕ} {first : Word} {all : List Word} → Linked tokens start at first all here → (next_sign Dot (seen tokens) here → ⊥) → Told tokens (names start first) at (Ok (all, here))
links_ended {tokens = tokens} {start = start} {at = at} {here = here} {first = first} {all = all} l n =
    subst (λ z. Told tokens (names start first) at (Ok (z, here))) (append_nil_is all) (links_ok tokens start at here here first all [] l (no_link tokens start here l.more n))
  where
    append_nil_is : (zs : List Word) → zs ++ [] ≡ zs
    append_nil_is [] = refl
    append_nil_is (z ∷ zs) = ap (λ y. z ∷ y) (append_nil_is zs)

-- behind a dot no name stands
stuck_link : (tokens : List Token) (start here behind more : ℕ) (e : Stop) → next_sign Dot (seen tokens) here → Passed tokens (IsSign Dot) here (Ok behind) → Told tokens (name AllWords) behind (Err e) → Told tokens (links start more) here (Err e)
stuck_link tokens start here behind zero e d p h = one_way d (past p (halt h))
stuck_link tokens start here behind (suc more) e d p h = one_way d (past p (halt h))

pub links_stuck : {tokens : List Token} {start at here behind : ℕ} {first : Word} {all : List Word} {e : Stop} → Linked tokens start at first all here → next_sign Dot (seen tokens) here → Passed tokens (IsSign Dot) here (Ok behind) → Told tokens (name AllWords) behind (Err e) → Told tokens (names start first) at (Err e)
links_stuck {tokens = tokens} {start = start} {at = at} {here = here} {behind = behind} {first = first} {all = all} {e = e} l d p h =
    links_err tokens start at here first all e l (stuck_link tokens start here behind l.more e d p h)

-- there is no dot
undotted : (tokens : List Token) (start here more : ℕ) (e : Stop) → next_sign Dot (seen tokens) here → Passed tokens (IsSign Dot) here (Err e) → Told tokens (links start more) here (Err e)
undotted tokens start here zero e d p = one_way d (stuck p)
undotted tokens start here (suc more) e d p = one_way d (stuck p)

pub links_undotted : {tokens : List Token} {start at here : ℕ} {first : Word} {all : List Word} {e : Stop} → Linked tokens start at first all here → next_sign Dot (seen tokens) here → Passed tokens (IsSign Dot) here (Err e) → Told tokens (names start first) at (Err e)
links_undotted {tokens = tokens} {start = start} {at = at} {here = here} {first = first} {all = all} {e = e} l d p =
    links_err tokens start at here first all e l (undotted tokens start here l.more e d p)

-- a seventh name
seventh : (tokens : List Token) (start here behind after more : ℕ) (x : Word) → more ≡ 0 → next_sign Dot (seen tokens) here → Passed tokens (IsSign Dot) here (Ok behind) → Told tokens (name AllWords) behind (Ok (x, after)) → Told tokens (links start more) here (Err (At TooManyLevels start))
seventh tokens start here behind after zero x z d p h = one_way d (past p (next h refuses))
seventh tokens start here behind after (suc more) x z d p h = absurd (omega arith)

pub links_full : {tokens : List Token} {start at here behind after : ℕ} {first x : Word} {all : List Word} → Linked tokens start at first all here → length all ≡ 6 → next_sign Dot (seen tokens) here → Passed tokens (IsSign Dot) here (Ok behind) → Told tokens (name AllWords) behind (Ok (x, after)) → Told tokens (names start first) at (Err (At TooManyLevels start))
links_full {tokens = tokens} {start = start} {at = at} {here = here} {behind = behind} {after = after} {first = first} {x = x} {all = all} l six d p h =
    let n = l.count in
    let k = sym six ∙ ap length l.is in
    links_err tokens start at here first all (At TooManyLevels start) l (seventh tokens start here behind after l.more x (omega arith) d p h)

-- one more name
record Longer (tokens : List Token) (start here after : ℕ) (x : Word) (more : ℕ) : Type 0 where
  less : ℕ
  is : more ≡ suc less
  reads : (xs : List Word) (end : ℕ) → Reads (seen tokens) (links start less) after xs end → Reads (seen tokens) (links start more) here (x ∷ xs) end
  stops : (w : ParseWord) (p : ℕ) → Stops (seen tokens) (links start less) after w p → Stops (seen tokens) (links start more) here w p

longer : (tokens : List Token) (start here behind after more : ℕ) (x : Word) → (more ≡ 0 → ⊥) → next_sign Dot (seen tokens) here → Passed tokens (IsSign Dot) here (Ok behind) → Told tokens (name AllWords) behind (Ok (x, after)) → Longer tokens start here after x more
longer tokens start here behind after zero x z d p h = absurd (z refl)
longer tokens start here behind after (suc more) x z d p h = record {
  less = more;
  is = refl;
  reads = λ xs end k. inl (d, (tt, behind, p.by, (x, after, h.by, (xs, end, k, (refl, refl)))));
  stops = λ w q k. inl (d, inr (tt, behind, p.by, inr (x, after, h.by, inl k)));
}

pub links_more : {tokens : List Token} {start at here behind after : ℕ} {first x : Word} {all longer_all : List Word} → Linked tokens start at first all here → (length all ≡ 6 → ⊥) → next_sign Dot (seen tokens) here → Passed tokens (IsSign Dot) here (Ok behind) → Told tokens (name AllWords) behind (Ok (x, after)) → longer_all ≡ all ++ x ∷ [] → Linked tokens start at first longer_all after
links_more {tokens = tokens} {start = start} {at = at} {here = here} {behind = behind} {after = after} {first = first} {x = x} {all = all} l six d p h e =
    let c = l.count in
    let k = ap length l.is in
    let g = longer tokens start here behind after l.more x (λ z. six (omega arith)) d p h in
    let i = g.is in
    let a = length-append l.rest (x ∷ []) in
    record {
      rest = l.rest ++ x ∷ [];
      more = g.less;
      is = e ∙ ap (λ z. z ++ x ∷ []) l.is;
      count = omega arith;
      reads = λ xs end r. subst (λ z. Reads (seen tokens) (links start 5) at z end) (sym (append_assoc l.rest (x ∷ []) xs)) (l.reads (x ∷ xs) end (g.reads xs end r));
      stops = λ w q s. l.stops w q (g.stops w q s);
    }
