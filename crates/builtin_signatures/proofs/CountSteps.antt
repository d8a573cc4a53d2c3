-- The numbers of arguments, row by row.
use Rattle.std.proofs.Common.{◌≡◌, ℕ, Bool, true, false, ◌&&◌, eqb, cond, List, [], ◌∷◌, length, bytes_eq, Some, refl, sym, ap, ◌∙◌}
use Rattle.std.specs.List.{list_all}
use Rattle.std.proofs.lemmas.Bool.{and_parts, eqb-true}
use Rattle.builtin_table.specs.declared.method.Builtin.{Builtin}
use Rattle.builtin_names.specs.Names.{Form, found, methods, signature_of, text_methods, number_methods, date_methods, collection_methods, platform_methods}
use Rattle.builtin_signatures.specs.Dues.{each, dues_of}

abbrev agrees : Form → Bool
agrees f = eqb f.count (length (each (dues_of f.builtin)))

all_agree : list_all agrees methods ≡ true
unfolding text_methods number_methods date_methods collection_methods platform_methods
all_agree = refl

some : {A : Type 0} (a b : A) → Some a ≡ Some b → a ≡ b
some a b e = cc

found_agrees : (fs : List Form) (kind name : List ℕ) (n : ℕ) (b : Builtin) → list_all agrees fs ≡ true → found fs kind name n ≡ Some b → length (each (dues_of b)) ≡ n
found_agrees [] kind name n b all is = absurd (cc)
found_agrees (f ∷ fs) kind name n b all is =
    let parts = and_parts (agrees f) (list_all agrees fs) all in
    by (bytes_eq f.kind kind && (bytes_eq f.name name && eqb f.count n)) refl (found_agrees fs kind name n b parts.1) is
  where
    by : (c : Bool) → (bytes_eq f.kind kind && (bytes_eq f.name name && eqb f.count n)) ≡ c → (found fs kind name n ≡ Some b → length (each (dues_of b)) ≡ n)
        → cond c (Some f.builtin) (found fs kind name n) ≡ Some b → length (each (dues_of b)) ≡ n
    by true e rest s =
        let one = (and_parts (agrees f) (list_all agrees fs) all).0 in
        let asked = (and_parts (bytes_eq f.name name) (eqb f.count n) (and_parts (bytes_eq f.kind kind) (bytes_eq f.name name && eqb f.count n) e).1).1 in
        ap (λ x. length (each (dues_of x))) (sym (some f.builtin b s)) ∙ sym (eqb-true f.count (length (each (dues_of f.builtin))) one) ∙ eqb-true f.count n asked
    by false e rest s = rest s

pub counts_agree : (kind method : List ℕ) (n : ℕ) (b : Builtin) → signature_of kind method n ≡ Some b → length (each (dues_of b)) ≡ n
counts_agree kind method n b is = found_agrees methods kind method n b all_agree is
