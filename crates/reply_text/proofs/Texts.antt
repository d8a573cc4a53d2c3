-- Texts that are put together part by part.
use Rattle.std.proofs.Common.{arith, ◌≡◌, ℕ, suc, ◌+◌, ◌<◌, ◌≤◌, List, [], ◌∷◌, ◌++◌, length, drop, refl, ap, sym, ◌∙◌, append_assoc, length-append}
use Rattle.std.proofs.lemmas.List.{at_drop_more}
use Rattle.fault_words.specs.declared.fault.Fault.{Fault}
use Rattle.bundle_read.specs.declared.entries.RequestEntry.{RequestEntry}
use Rattle.reply_text.specs.Reports.{undeployed_line, requests_text}

-- what is left begins with the part that is put behind the others
pub step : (old new one rest left total : List ℕ) → new ≡ old ++ one → rest ≡ one ++ left → old ++ rest ≡ total → new ++ left ≡ total
step old new one rest left total n r t = ap (λ x. x ++ left) n ∙ append_assoc old one left ∙ ap (λ x. old ++ x) (sym r) ∙ t

-- a line has a byte at least
longer : (old new head tail : List ℕ) (b : ℕ) → new ≡ old ++ (head ++ b ∷ tail) → length old + 1 ≤ length new
longer old new head tail b n =
    let l : length new ≡ length (old ++ (head ++ b ∷ tail)) = ap length n in
    let o = length-append old (head ++ b ∷ tail) in
    let h = length-append head (b ∷ tail) in
    let c : length (b ∷ tail) ≡ suc (length tail) = refl in
    omega arith

pub grows : (old new : List ℕ) (k s i : ℕ) (f : Fault) → new ≡ old ++ undeployed_line k s i f → length old + 1 ≤ length new
grows old new k s i f n = longer old new _ [] 10 n

-- a list with a place has an element
some : (rs : List RequestEntry) (i : ℕ) → i < length rs → RequestEntry
some [] i lt = absurd (omega arith)
some (r ∷ rs) i lt = r

pub request_more : (old new total : List ℕ) (k s i : ℕ) (f : Fault) (rs : List RequestEntry) → i < length rs → new ≡ old ++ undeployed_line k s i f → old ++ requests_text k s i f (drop i rs) ≡ total → new ++ requests_text (k + 1) s (i + 1) f (drop (i + 1) rs) ≡ total
request_more old new total k s i f rs lt n t =
    step old new (undeployed_line k s i f) (requests_text k s i f (drop i rs)) (requests_text (k + 1) s (i + 1) f (drop (i + 1) rs)) total n (at_drop_more (requests_text k s i f) rs i (some rs i lt) lt) t
