-- What is unknown for one number of arguments is so for every number.
use Rattle.std.proofs.Common.{◌≡◌, ℕ, Bool, true, false, ◌&&◌, ◌||◌, eqb, cond, List, [], ◌∷◌, bytes_eq, is_some, Option, None, Some, refl, sym, ap, ◌∙◌}
use Rattle.std.specs.List.{list_all, list_any}
use Rattle.std.proofs.lemmas.Bool.{and_parts, eqb-true}
use Rattle.apex_text.specs.Fold.{folded}
use Rattle.builtin_names.specs.Names.{Form, found, methods, signature_of, text_methods, number_methods, date_methods, collection_methods, platform_methods}
use Rattle.builtin_table.specs.declared.method.Builtin.{Builtin}
use Rattle.method_calls.specs.BuiltinUses.{UnknownForAll, called, called_so, called_with_any, counts, use_of, use_or}
use Rattle.method_calls.specs.declared.builtin.BuiltinUse.TheVariants.{Unknown}
use Rattle.method_calls.specs.declared.builtin.Target.{Target}

-- ---- a number of arguments that a method takes is one of those that are looked at

abbrev is_looked_at : ℕ → Bool
is_looked_at n = list_any (eqb n) counts

abbrev is_few : Form → Bool
is_few f = is_looked_at f.count

all_few : list_all is_few methods ≡ true
unfolding text_methods number_methods date_methods collection_methods platform_methods
all_few = refl

found_few : (fs : List Form) (kind name : List ℕ) (n : ℕ) (b : Builtin) → list_all is_few fs ≡ true → found fs kind name n ≡ Some b → is_looked_at n ≡ true
found_few [] kind name n b all is = absurd (cc)
found_few (f ∷ fs) kind name n b all is =
    let parts = and_parts (is_few f) (list_all is_few fs) all in
    by (bytes_eq f.kind kind && (bytes_eq f.name name && eqb f.count n)) refl (found_few fs kind name n b parts.1) is
  where
    by : (c : Bool) → (bytes_eq f.kind kind && (bytes_eq f.name name && eqb f.count n)) ≡ c → (found fs kind name n ≡ Some b → is_looked_at n ≡ true)
        → cond c (Some f.builtin) (found fs kind name n) ≡ Some b → is_looked_at n ≡ true
    by true e rest s =
        let one = (and_parts (is_few f) (list_all is_few fs) all).0 in
        let asked = (and_parts (bytes_eq f.name name) (eqb f.count n) (and_parts (bytes_eq f.kind kind) (bytes_eq f.name name && eqb f.count n) e).1).1 in
        ap is_looked_at (sym (eqb-true f.count n asked)) ∙ one
    by false e rest s = rest s

-- ---- one of these numbers passes a test where the number itself does

or_true : (b : Bool) → (b || true) ≡ true
or_true true = refl
or_true false = refl

passed : (p : ℕ → Bool) (k : ℕ) (cs : List ℕ) → list_any (eqb k) cs ≡ true → p k ≡ true → list_any p cs ≡ true
passed p k [] a e = absurd (cc)
passed p k (c ∷ cs) a e = by (eqb k c) refl (λ behind. passed p k cs behind e)
  where
    by : (v : Bool) → eqb k c ≡ v → (list_any (eqb k) cs ≡ true → list_any p cs ≡ true) → (p c || list_any p cs) ≡ true
    by true same rest = ap (λ v. v || list_any p cs) (ap p (sym (eqb-true k c same)) ∙ e)
    by false other rest = ap (λ v. p c || v) (rest (ap (λ v. v || list_any (eqb k) cs) (sym other) ∙ a)) ∙ or_true (p c)

-- ---- the law

no_other : (others : Bool) (which : Option Builtin) → use_or others which ≡ Unknown → others ≡ false
no_other others (Some b) e = absurd (cc)
no_other true None e = absurd (cc)
no_other false None e = refl

is_none : (which : Option Builtin) → is_some which ≡ false → which ≡ None
is_none None e = refl
is_none (Some b) e = absurd (cc)

was_found : (on : Target) (which : Option Builtin) → is_some (called_so on which) ≡ true → (b : Builtin) × (which ≡ Some b)
was_found on (Some b) e = (b, refl)
was_found on None e = absurd (cc)

module _ (kind method : List ℕ) (on : Target) (k : ℕ) (none : called_with_any kind method counts on ≡ false) where
  abbrev takes : ℕ → Bool
  takes count = is_some (called kind method count on)

  any : takes k ≡ true → called_with_any kind method counts on ≡ true
  any e =
      let one = was_found on (signature_of kind method k) e in
      passed takes k counts (found_few methods kind method k one.0 all_few one.1) e

  by : (v : Bool) → takes k ≡ v → use_of kind method k on ≡ Unknown
  by true e = let same : true ≡ false = sym (any e) ∙ none in absurd (cc)
  by false e = ap (λ others. use_or others (called kind method k on)) none ∙ ap (λ which. use_or false which) (is_none (called kind method k on) e)

pub unknown_for_all : UnknownForAll
unknown_for_all kind method on n k e =
    by (folded kind) method on k (no_other (called_with_any (folded kind) method counts on) (called (folded kind) method n on) e) (is_some (called (folded kind) method k on)) refl
