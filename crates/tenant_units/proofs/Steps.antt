-- The trees of units, one after the other.
use Rattle.std.proofs.Common.{arith, ◌≡◌, inl, inr, ⊎_elim, ◌<◌, ◌+◌, ℕ, suc, List, [], ◌∷◌, ◌++◌, length, take, drop, get_or, refl, sym, ap, ◌∙◌, subst}
use Rattle.std.proofs.lemmas.List.{take_more, take-append-drop}
use Rattle.std.proofs.Math.Seq.{drop-cons}
use Rattle.fault_words.specs.declared.fault.Fault.{Fault}
use Rattle.apex_syntax.specs.declared.unit.Unit.{Unit as Tree}
use Rattle.bundle_read.specs.declared.entries.UnitPlan.{UnitPlan}
use Rattle.tenant_units.specs.declared.fault.UnitFault.{UnitFault}
use Rattle.tenant_units.specs.declared.fault.UnitFault.TheVariants.{Wrong, NoMemory}
use Rattle.tenant_units.specs.Faults.{IsTree, OnlyTree, OnlyFault, NoTree}
use Rattle.tenant_units.specs.Trees.{unit_rule, IsUnit, AreUnits, IsUnitFault, IsFirstFault, OnlyUnits, OnlyFirstFault, NoUnits}

-- the tree of a unit, and no other and no fault
pub record OneTree (p : UnitPlan) (t : Tree) : Type 0 where
  pub is : IsUnit p.text t
  pub only : OnlyTree unit_rule p.name p.text t

pub record OneFault (p : UnitPlan) (fault : Fault) : Type 0 where
  pub is : IsUnitFault p fault
  pub only : OnlyFault unit_rule p.name p.text (Wrong fault)

abbrev pub Each : List UnitPlan → List Tree → Type 0
Each [] trees = trees ≡ []
Each (p ∷ ps) [] = ⊥
Each (p ∷ ps) (t ∷ trees) = OneTree p t × Each ps trees

join : (ps : List UnitPlan) (trees : List Tree) (p : UnitPlan) (t : Tree) → Each ps trees → OneTree p t → Each (ps ++ p ∷ []) (trees ++ t ∷ [])
join [] trees p t h is = subst (λ l. Each (p ∷ []) (l ++ t ∷ [])) (sym h) (is, refl)
join (q ∷ ps) [] p t h is = absurd h
join (q ∷ ps) (s ∷ trees) p t (here, rest) is = (here, join ps trees p t rest is)

-- ---- all units have trees

pub all_are : (ps : List UnitPlan) (trees : List Tree) → Each ps trees → AreUnits ps trees
all_are [] trees h = h
all_are (p ∷ ps) [] h = absurd h
all_are (p ∷ ps) (t ∷ trees) (here, rest) = (here.is, all_are ps trees rest)

all_only : (ps : List UnitPlan) (trees others : List Tree) → Each ps trees → AreUnits ps others → others ≡ trees
all_only [] trees others h k = k ∙ sym h
all_only (p ∷ ps) [] others h k = absurd h
all_only (p ∷ ps) (t ∷ trees) [] h k = absurd k
all_only (p ∷ ps) (t ∷ trees) (o ∷ others) (here, rest) (is, more) =
    ap (λ x. x ∷ others) (here.only.0 o is) ∙ ap (λ l. t ∷ l) (all_only ps trees others rest more)

all_faultless : (ps : List UnitPlan) (trees : List Tree) (fault : Fault) → Each ps trees → IsFirstFault ps fault → ⊥
all_faultless [] trees fault h f = f
all_faultless (p ∷ ps) [] fault h f = h
all_faultless (p ∷ ps) (t ∷ trees) fault (here, rest) (inl f) = here.only.1 fault f
all_faultless (p ∷ ps) (t ∷ trees) fault (here, rest) (inr (s, f)) = all_faultless ps trees fault rest f

pub all_one : (ps : List UnitPlan) (trees : List Tree) → Each ps trees → OnlyUnits ps trees
all_one ps trees h = ((λ others k. all_only ps trees others h k), (λ fault f. all_faultless ps trees fault h f))

-- ---- one has none

skip : (ps : List UnitPlan) (trees : List Tree) (p : UnitPlan) (rest : List UnitPlan) (fault : Fault) → Each ps trees → IsUnitFault p fault → IsFirstFault (ps ++ p ∷ rest) fault
skip [] trees p rest fault h f = inl f
skip (q ∷ ps) [] p rest fault h f = absurd h
skip (q ∷ ps) (s ∷ trees) p rest fault (here, more) f = inr ((s, here.is), skip ps trees p rest fault more f)

skip_only : (ps : List UnitPlan) (trees : List Tree) (p : UnitPlan) (rest : List UnitPlan) (fault other : Fault) → Each ps trees → OneFault p fault → IsFirstFault (ps ++ p ∷ rest) other → other ≡ fault
skip_only [] trees p rest fault other h f (inl k) = f.only.0 other k
skip_only [] trees p rest fault other h f (inr (s, k)) = absurd (f.only.1 s.0 s.1)
skip_only (q ∷ ps) [] p rest fault other h f k = absurd h
skip_only (q ∷ ps) (s ∷ trees) p rest fault other (here, more) f (inl k) = absurd (here.only.1 other k)
skip_only (q ∷ ps) (s ∷ trees) p rest fault other (here, more) f (inr (t, k)) = skip_only ps trees p rest fault other more f k

skip_none : (ps : List UnitPlan) (trees : List Tree) (p : UnitPlan) (rest : List UnitPlan) (fault : Fault) (others : List Tree) → Each ps trees → OneFault p fault → AreUnits (ps ++ p ∷ rest) others → ⊥
skip_none [] trees p rest fault [] h f k = k
skip_none [] trees p rest fault (o ∷ others) h f (is, k) = f.only.1 o is
skip_none (q ∷ ps) [] p rest fault others h f k = h
skip_none (q ∷ ps) (s ∷ trees) p rest fault [] h f k = k
skip_none (q ∷ ps) (s ∷ trees) p rest fault (o ∷ others) (here, more) f (is, k) = skip_none ps trees p rest fault others more f k

module _ (units : List UnitPlan) (i : ℕ) (p : UnitPlan) (trees : List Tree) (lt : i < length units) (is : p ≡ get_or units i p) (h : Each (take i units) trees) where
  pub unit_more : (t : Tree) → IsUnit p.text t → OnlyTree unit_rule p.name p.text t → Each (take (i + 1) units) (trees ++ t ∷ [])
  unit_more t u o = subst (λ l. Each l (trees ++ t ∷ [])) (sym (take_more units i p lt ∙ ap (λ x. take i units ++ x ∷ []) (sym is))) (join (take i units) trees p t h (record { is = u; only = o }))

  whole : take i units ++ p ∷ drop (suc i) units ≡ units
  whole = sym (sym (take-append-drop i units) ∙ ap (λ l. take i units ++ l) (drop-cons units i p lt ∙ ap (λ x. x ∷ drop (suc i) units) (sym is)))

  pub no_units : (fault : UnitFault) → NoTree unit_rule p.name p.text fault → NoUnits units fault
  no_units (Wrong fault) f = subst (λ l. IsFirstFault l fault) whole (skip (take i units) trees p (drop (suc i) units) fault h f)
  no_units NoMemory f = tt

  one_first : (fault : Fault) → OneFault p fault → OnlyFirstFault (take i units ++ p ∷ drop (suc i) units) (Wrong fault)
  one_first fault f = (
    (λ other k. skip_only (take i units) trees p (drop (suc i) units) fault other h f k),
    (λ others k. skip_none (take i units) trees p (drop (suc i) units) fault others h f k),
  )

  pub one_no_units : (fault : UnitFault) → NoTree unit_rule p.name p.text fault → OnlyFault unit_rule p.name p.text fault → OnlyFirstFault units fault
  one_no_units (Wrong fault) f o = subst (λ l. OnlyFirstFault l (Wrong fault)) whole (one_first fault (record { is = f; only = o }))
  one_no_units NoMemory f o = tt
