-- What is found in several tables.
use Rattle.std.proofs.Common.{◌≡◌, ◌&&◌, ℕ, Bool, true, false, cond, eqb, List, [], ◌∷◌, ◌++◌, bytes_eq, Option, Some, None, refl, sym, ap, ◌∙◌}
use Rattle.builtin_table.specs.declared.method.Builtin.{Builtin}
use Rattle.builtin_names.specs.Names.{Form, found, methods, text_methods, number_methods, date_methods, collection_methods, platform_methods}

module _ (kind name : List ℕ) (count : ℕ) where
  abbrev or_found : Option Builtin → Option Builtin → Option Builtin
  or_found (Some b) o = Some b
  or_found None o = o

  found_append : (fs gs : List Form) → found (fs ++ gs) kind name count ≡ or_found (found fs kind name count) (found gs kind name count)
  found_append [] gs = refl
  found_append (f ∷ fs) gs = by (bytes_eq f.kind kind && (bytes_eq f.name name && eqb f.count count)) (found_append fs gs)
    where
      by : (b : Bool) → found (fs ++ gs) kind name count ≡ or_found (found fs kind name count) (found gs kind name count)
          → cond b (Some f.builtin) (found (fs ++ gs) kind name count) ≡ or_found (cond b (Some f.builtin) (found fs kind name count)) (found gs kind name count)
      by true e = refl
      by false e = e

  abbrev in' : List Form → Option Builtin
  in' fs = found fs kind name count

  chain : in' methods ≡ or_found (in' text_methods) (or_found (in' number_methods) (or_found (in' date_methods) (or_found (in' collection_methods) (in' platform_methods))))
  chain =
      found_append text_methods _
      ∙ ap (or_found (in' text_methods)) (found_append number_methods _
      ∙ ap (or_found (in' number_methods)) (found_append date_methods _
      ∙ ap (or_found (in' date_methods)) (found_append collection_methods platform_methods)))

  pub in_texts : (b : Builtin) → Some b ≡ in' text_methods → Some b ≡ in' methods
  in_texts b t = sym (chain ∙ rw (sym t) refl)

  pub in_numbers : (b : Builtin) → None ≡ in' text_methods → Some b ≡ in' number_methods → Some b ≡ in' methods
  in_numbers b t n = sym (chain ∙ rw (sym t) (rw (sym n) refl))

  pub in_dates : (b : Builtin) → None ≡ in' text_methods → None ≡ in' number_methods → Some b ≡ in' date_methods → Some b ≡ in' methods
  in_dates b t n d = sym (chain ∙ rw (sym t) (rw (sym n) (rw (sym d) refl)))

  pub in_collections : (b : Builtin) → None ≡ in' text_methods → None ≡ in' number_methods → None ≡ in' date_methods → Some b ≡ in' collection_methods → Some b ≡ in' methods
  in_collections b t n d c = sym (chain ∙ rw (sym t) (rw (sym n) (rw (sym d) (rw (sym c) refl))))

  pub in_platform : (o : Option Builtin) → None ≡ in' text_methods → None ≡ in' number_methods → None ≡ in' date_methods → None ≡ in' collection_methods → o ≡ in' platform_methods → o ≡ in' methods
  in_platform o t n d c e = e ∙ sym (chain ∙ rw (sym t) (rw (sym n) (rw (sym d) (rw (sym c) refl))))
