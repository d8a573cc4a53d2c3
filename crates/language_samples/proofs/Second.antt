-- Classes: when they are prepared, how instances are made, what is called and what is caught.
use Rattle.std.proofs.Common.{◌≡◌, refl, ℕ, true, false, List, [], ◌∷◌, codes, None, Some, arith}
use Rattle.std.specs.Int.{int_wrap}
use Rattle.std.specs.Str.{is_utf8}
use Rattle.std.proofs.lemmas.Str.{is_utf8-from_IsUtf8}
use Rattle.apex_num.specs.declared.kind.LimitKind.TheVariants as Kind
use Rattle.apex_requests.specs.declared.reply.Outcome.{Outcome}
use Rattle.apex_requests.specs.declared.reply.Outcome.TheVariants.{Ok, Thrown, Limit}
use Rattle.builtin_table.specs.declared.exception.ExceptionClass.TheVariants as X
use Rattle.builtin_table.specs.declared.method.Builtin.TheVariants as B
use Rattle.builtin_table.specs.declared.method.PlatformMethod.TheVariants as P
use Rattle.limit_meter.specs.Charges.{Charged}
use Rattle.static_types.specs.declared.kind.ValueType.TheOpen.{ValueType-F}
use Rattle.typed_program.specs.declared.expr.Constructor.TheVariants as By
use Rattle.typed_program.specs.declared.unit.ParentClass.TheVariants as Parent
use Rattle.language_samples.proofs.Known.{ExprOf, number, truth, nothing, text, local, static, plus, times, fails, equal, join, assign, add_to, at_local, at_static, at_field, field, call, call_on, cast, new, builtin_on}
use Rattle.language_samples.proofs.Stmts.{StmtOf, block, does, say, has, declare, while, return, throw, catch, try, try_finally}
use Rattle.language_samples.proofs.Classes.{ClassOf, Nothing, Implied, Super, This, class, child, method, static_of, own_of, constructor, run, comes, says, tells, run_behind, comes_behind, Told, Came}

abbrev printed : Told
printed = Came Ok 0 (codes "true" ∷ [])

abbrev null_thrown : Outcome
null_thrown = Thrown (codes "NullPointerException") (codes "Attempt to de-reference a null object")

-- class T { static Integer n = 0; static Integer note(Integer k) { n = n * 10 + k; return k; } }, which stands first
abbrev notes : ClassOf
notes = record (class (codes "T")) {
  fields = static_of (number 0) ∷ [];
  methods = method (codes "note") 1 true (does (assign (at_static 0 0) (plus (times (static 0 0) (number 10)) (local 0))) ∷ return (local 0) ∷ []) ∷ [];
}

abbrev note : ℕ → ExprOf
note k = call 0 0 (number k ∷ [])

-- System.debug(T.n == k);
abbrev noted : ℕ → StmtOf
noted k = say (equal (static 0 0) (number k))

-- ---- preparation

-- class C { static Integer a = T.note(1); static Integer b = T.note(2); }: Integer x = C.b;
abbrev two_statics : ClassOf
two_statics = record (class (codes "C")) { fields = static_of (note 1) ∷ static_of (note 2) ∷ [] }

in_order : says (notes ∷ two_statics ∷ []) (has 0 (static 1 1) ∷ noted 12 ∷ []) ≡ printed
unfolding int_wrap
in_order = tells 2 _ _ _ (omega arith) (λ rest. refl)

-- and once
once : says (notes ∷ two_statics ∷ []) (has 0 (static 1 1) ∷ has 0 (static 1 0) ∷ noted 12 ∷ []) ≡ printed
unfolding int_wrap
once = tells 2 _ _ _ (omega arith) (λ rest. refl)

-- class P { static Integer a = T.note(1); } class C extends P { static Integer b = T.note(2); }: Integer x = C.b; its parent first
parent_first : says (notes ∷ record (class (codes "P")) { fields = static_of (note 1) ∷ [] } ∷ record (child (codes "C") 1) { fields = static_of (note 2) ∷ [] } ∷ []) (has 0 (static 2 0) ∷ noted 12 ∷ []) ≡ printed
unfolding int_wrap
parent_first = tells 2 _ _ _ (omega arith) (λ rest. refl)

-- P.a is a static of P, so that C isn't prepared
declaring_class : says (notes ∷ record (class (codes "P")) { fields = static_of (note 1) ∷ [] } ∷ record (child (codes "C") 1) { fields = static_of (note 2) ∷ [] } ∷ []) (has 0 (static 1 0) ∷ noted 1 ∷ []) ≡ printed
unfolding int_wrap
declaring_class = tells 2 _ _ _ (omega arith) (λ rest. refl)

-- class A { static Integer x = B.y; } class B { static Integer y = A.x; }: while A is being prepared it counts as prepared
counts_as_prepared : says (record (class (codes "A")) { fields = static_of (static 1 0) ∷ [] } ∷ record (class (codes "B")) { fields = static_of (static 0 0) ∷ [] } ∷ []) (say (equal (static 0 0) nothing) ∷ []) ≡ printed
counts_as_prepared = tells 2 _ _ _ (omega arith) (λ rest. refl)

-- class C { static Integer a = T.note(2); static void f(Integer k) { T.note(3); } }: C.f(T.note(1)); behind the arguments of a call
behind_arguments : says (notes ∷ record (class (codes "C")) { fields = static_of (note 2) ∷ []; methods = method (codes "f") 1 true (does (note 3) ∷ []) ∷ [] } ∷ []) (does (call 1 0 (note 1 ∷ [])) ∷ noted 123 ∷ []) ≡ printed
unfolding int_wrap
behind_arguments = tells 2 _ _ _ (omega arith) (λ rest. refl)

-- class C { static Integer a = T.note(2); }: C.a = T.note(1); at the store
at_the_store : says (notes ∷ record (class (codes "C")) { fields = static_of (note 2) ∷ [] } ∷ []) (does (assign (at_static 1 0) (note 1)) ∷ noted 12 ∷ say (equal (static 1 0) (number 1)) ∷ []) ≡ Came Ok 0 (codes "true" ∷ codes "true" ∷ [])
unfolding int_wrap
at_the_store = tells 2 _ _ _ (omega arith) (λ rest. refl)

-- C.a += T.note(1); at the load
at_the_load : says (notes ∷ record (class (codes "C")) { fields = static_of (note 2) ∷ [] } ∷ []) (does (add_to (at_static 1 0) (note 1)) ∷ noted 21 ∷ say (equal (static 1 0) (number 3)) ∷ []) ≡ Came Ok 0 (codes "true" ∷ codes "true" ∷ [])
unfolding int_wrap
at_the_load = tells 2 _ _ _ (omega arith) (λ rest. refl)

-- class C { static Integer a = 1 / 0; static Integer b = 5; }: a class whose preparation threw stays prepared
stays_prepared : says (record (class (codes "C")) { fields = static_of fails ∷ static_of (number 5) ∷ [] } ∷ []) (try (has 0 (static 0 1) ∷ []) (catch (ValueType-F.Exception X.Math) 0 (say (truth true) ∷ []) ∷ []) ∷ say (equal (static 0 1) nothing) ∷ []) ≡ Came Ok 0 (codes "true" ∷ codes "true" ∷ [])
unfolding int_wrap
stays_prepared = tells 2 _ _ _ (omega arith) (λ rest. refl)

-- ---- construction

-- class P { P() { T.note(3); } } class C extends P { static Integer s = T.note(2); Integer f = T.note(4); C(Integer k) { T.note(5); } }:
-- new C(T.note(1)); arguments, preparation, the parent's constructor, the fields, the body
constructs : says (
    notes ∷ record (class (codes "P")) { constructors = constructor Nothing (does (note 3) ∷ []) ∷ [] }
    ∷ record (child (codes "C") 1) { implied = None; fields = static_of (note 2) ∷ own_of (note 4) ∷ []; constructors = constructor (Implied (record { class = 1; constructor = By.Declared 0 })) (does (note 5) ∷ []) ∷ [] } ∷ []
    ) (does (new 2 (By.Declared 0) (note 1 ∷ [])) ∷ noted 12345 ∷ []) ≡ printed
unfolding int_wrap
constructs = tells 3 _ _ _ (omega arith) (λ rest. refl)

-- class P { P(Integer k) { T.note(2); } } class C extends P { Integer f = T.note(3); C() { super(T.note(1)); T.note(4); } }: new C();
calls_super : says (
    notes ∷ record (class (codes "P")) { constructors = constructor Nothing (does (note 2) ∷ []) ∷ [] }
    ∷ record (child (codes "C") 1) { implied = None; fields = own_of (note 3) ∷ []; constructors = constructor (Super 1 (By.Declared 0) (note 1 ∷ [])) (does (note 4) ∷ []) ∷ [] } ∷ []
    ) (does (new 2 (By.Declared 0) []) ∷ noted 1234 ∷ []) ≡ printed
unfolding int_wrap
calls_super = tells 3 _ _ _ (omega arith) (λ rest. refl)

-- class C { Integer f = T.n = T.n * 10 + 2; C(Integer k) { T.note(3); } C() { this(T.note(1)); T.note(4); } }: new C(); the fields have their values once
calls_this : says (
    notes ∷ record (class (codes "C")) { fields = own_of (assign (at_static 0 0) (plus (times (static 0 0) (number 10)) (number 2))) ∷ []; constructors = constructor Nothing (does (note 3) ∷ []) ∷ constructor (This (By.Declared 0) (note 1 ∷ [])) (does (note 4) ∷ []) ∷ [] } ∷ []
    ) (does (new 1 (By.Declared 1) []) ∷ noted 1234 ∷ []) ≡ printed
unfolding int_wrap
calls_this = tells 3 _ _ _ (omega arith) (λ rest. refl)

-- class P { Integer f = T.note(1); } class C extends P { Integer g = T.note(2); }: new C(); where none is declared, the fields of the parent come first
implied : says (notes ∷ record (class (codes "P")) { fields = own_of (note 1) ∷ [] } ∷ record (child (codes "C") 1) { fields = own_of (note 2) ∷ [] } ∷ []) (has 0 (new 2 By.Implied []) ∷ noted 12 ∷ say (equal (field (local 0) 2 0) (number 2)) ∷ say (equal (field (local 0) 1 0) (number 1)) ∷ [])
    ≡ Came Ok 0 (codes "true" ∷ codes "true" ∷ codes "true" ∷ [])
unfolding int_wrap
implied = tells 2 _ _ _ (omega arith) (λ rest. refl)

-- class C { }: new C(); costs the step of its statement, and class C { C() { } } that of a call too
steps_of_implied : run (class (codes "C") ∷ []) (does (new 0 By.Implied []) ∷ []) ≡ Came Ok 1 []
steps_of_implied = comes 1 _ _ _ (omega arith) (λ rest. refl)

steps_of_declared : run (record (class (codes "C")) { constructors = constructor Nothing [] ∷ [] } ∷ []) (does (new 0 (By.Declared 0) []) ∷ []) ≡ Came Ok 2 []
steps_of_declared = comes 2 _ _ _ (omega arith) (λ rest. refl)

-- class P { P() { } } class C extends P { C() { super(); } }: the statement, two calls, and `super()` is a statement
steps_of_super : run (record (class (codes "P")) { constructors = constructor Nothing [] ∷ [] } ∷ record (child (codes "C") 0) { implied = None; constructors = constructor (Super 0 (By.Declared 0) []) [] ∷ [] } ∷ []) (does (new 1 (By.Declared 0) []) ∷ []) ≡ Came Ok 4 []
steps_of_super = comes 3 _ _ _ (omega arith) (λ rest. refl)

-- class C { Integer f; }: System.debug(new C().f == null);
null_field : says (record (class (codes "C")) { fields = record { is_static = false; value = None } ∷ [] } ∷ []) (say (equal (field (new 0 By.Implied []) 0 0) nothing) ∷ []) ≡ printed
null_field = tells 1 _ _ _ (omega arith) (λ rest. refl)

-- class C { }: C a = new C(); System.debug(a == a); System.debug(a == new C()); instances are compared by identity
identity : says (class (codes "C") ∷ []) (has 0 (new 0 By.Implied []) ∷ say (equal (local 0) (local 0)) ∷ say (equal (local 0) (new 0 By.Implied [])) ∷ []) ≡ Came Ok 0 (codes "true" ∷ codes "false" ∷ [])
identity = tells 1 _ _ _ (omega arith) (λ rest. refl)

-- ---- calls

-- class P { virtual void m() { T.note(1); } } class C extends P { override void m() { T.note(2); } }
abbrev family : List ClassOf
family =
    notes ∷ record (class (codes "P")) { methods = method (codes "m") 0 false (does (note 1) ∷ []) ∷ [] }
    ∷ record (child (codes "C") 1) { methods = method (codes "m") 0 false (does (note 2) ∷ []) ∷ [] } ∷ child (codes "D") 2 ∷ []

-- P p = new C(); p.m(); runs the nearest method of the instance's class
virtual_calls : says family (has 0 (new 2 By.Implied []) ∷ does (call_on (local 0) 1 0 true []) ∷ noted 2 ∷ []) ≡ printed
unfolding int_wrap
virtual_calls = tells 2 _ _ _ (omega arith) (λ rest. refl)

-- an inherited one
inherited : says family (has 0 (new 3 By.Implied []) ∷ does (call_on (local 0) 1 0 true []) ∷ noted 2 ∷ []) ≡ printed
unfolding int_wrap
inherited = tells 2 _ _ _ (omega arith) (λ rest. refl)

-- a call that isn't virtual, as `super.m()`, runs this one itself
not_virtual : says family (has 0 (new 2 By.Implied []) ∷ does (call_on (local 0) 1 0 false []) ∷ noted 1 ∷ []) ≡ printed
unfolding int_wrap
not_virtual = tells 2 _ _ _ (omega arith) (λ rest. refl)

-- class C { void m(Integer k) { } }: C c; c.m(T.note(1)); the arguments come before a null receiver throws
arguments_first : says (notes ∷ record (class (codes "C")) { methods = method (codes "m") 1 false [] ∷ [] } ∷ []) (declare 0 ∷ try (does (call_on (local 0) 1 0 true (note 1 ∷ [])) ∷ []) (catch (ValueType-F.Exception X.NullPointer) 1 (noted 1 ∷ []) ∷ []) ∷ []) ≡ printed
unfolding int_wrap
arguments_first = tells 2 _ _ _ (omega arith) (λ rest. refl)

-- C c; c.f = T.note(1); a null instance is found at the store
field_store : says (notes ∷ record (class (codes "C")) { fields = own_of nothing ∷ [] } ∷ []) (declare 0 ∷ try (does (assign (at_field (local 0) 1 0) (note 1)) ∷ []) (catch (ValueType-F.Exception X.NullPointer) 1 (noted 1 ∷ []) ∷ []) ∷ []) ≡ printed
unfolding int_wrap
field_store = tells 2 _ _ _ (omega arith) (λ rest. refl)

-- class C { static Integer f() { try { return 1; } finally { return 2; } } }: System.debug(C.f() == 2);
finally_returns : says (record (class (codes "C")) { methods = method (codes "f") 0 true (try_finally (return (number 1) ∷ []) [] (return (number 2) ∷ []) ∷ []) ∷ [] } ∷ []) (say (equal (call 0 0 []) (number 2)) ∷ []) ≡ printed
finally_returns = tells 1 _ _ _ (omega arith) (λ rest. refl)

-- locals come back behind a call: Integer x = 5; T.note(1); System.debug(x == 5);
locals_back : says (notes ∷ []) (has 0 (number 5) ∷ does (note 1) ∷ say (equal (local 0) (number 5)) ∷ []) ≡ printed
unfolding int_wrap
locals_back = tells 1 _ _ _ (omega arith) (λ rest. refl)

-- also behind one that throws
locals_caught : says (record (class (codes "C")) { methods = method (codes "f") 1 true (has 0 fails ∷ []) ∷ [] } ∷ []) (has 0 (number 5) ∷ try (does (call 0 0 (number 1 ∷ [])) ∷ []) (catch (ValueType-F.Exception X.Math) 1 [] ∷ []) ∷ say (equal (local 0) (number 5)) ∷ []) ≡ printed
unfolding int_wrap
locals_caught = tells 1 _ _ _ (omega arith) (λ rest. refl)

-- ---- casts

-- P p = new P(); C c = (C) p;
cast_fails : says family (has 0 (new 1 By.Implied []) ∷ has 1 (cast 2 (local 0)) ∷ []) ≡ Came (Thrown (codes "TypeException") (codes "Invalid conversion")) 0 []
cast_fails = tells 1 _ _ _ (omega arith) (λ rest. refl)

-- (P) of a D, and (C) of null
cast_fits : says family (say (equal (cast 1 (new 3 By.Implied [])) nothing) ∷ say (equal (cast 2 nothing) nothing) ∷ []) ≡ Came Ok 0 (codes "false" ∷ codes "true" ∷ [])
cast_fits = tells 1 _ _ _ (omega arith) (λ rest. refl)

-- ---- declared exceptions

-- class AException extends Exception { } class BException extends AException { }
abbrev exceptions : List ClassOf
exceptions =
    record (class (codes "AException")) { parent = Parent.Exception } ∷ record (child (codes "BException") 0) { implied = Some (record { class = 0; constructor = By.Exception }) } ∷ []

-- a clause takes its class and the children of it
ancestor_catches : says exceptions (try (throw (new 1 By.Exception []) ∷ []) (catch (ValueType-F.Exception X.Math) 0 [] ∷ catch (ValueType-F.Class 0) 0 (say (truth true) ∷ []) ∷ []) ∷ []) ≡ printed
ancestor_catches = tells 1 _ _ _ (omega arith) (λ rest. refl)

-- and no parent of it
child_catches_not : says exceptions (try (throw (new 0 By.Exception []) ∷ []) (catch (ValueType-F.Class 1) 0 (say (truth true) ∷ []) ∷ []) ∷ []) ≡ Came (Thrown (codes "AException") (codes "null")) 0 []
child_catches_not = tells 1 _ _ _ (omega arith) (λ rest. refl)

utf8_f : is_utf8 (codes "f") ≡ true
unfolding lib.Utf8.encode
utf8_f = is_utf8-from_IsUtf8 (codes "f") (codes "f", (refl, refl))

-- throw new BException('f');
told_by_name : run exceptions (throw (new 1 By.Exception (text (codes "f") utf8_f ∷ [])) ∷ []) ≡ Came (Thrown (codes "BException") (codes "f")) 1 []
told_by_name = comes 1 _ _ _ (omega arith) (λ rest. refl)

-- try { throw new BException(); } catch (Exception e) { System.debug(e.getTypeName()); }
type_name : says exceptions (try (throw (new 1 By.Exception []) ∷ []) (catch ValueType-F.AnyException 0 (say (builtin_on (local 0) (B.Platform P.TypeName) []) ∷ []) ∷ []) ∷ []) ≡ Came Ok 0 (codes "BException" ∷ [])
type_name = tells 1 _ _ _ (omega arith) (λ rest. refl)

-- ---- limits, behind charges that were made before

-- while (true) { }
ends_at_steps : run_behind (Charged Kind.Steps 999997 ∷ []) [] (while (truth true) (block []) ∷ []) ≡ Came (Limit Kind.Steps 1000001) 1000000 []
ends_at_steps = comes_behind 3 _ _ _ _ (omega arith) (λ rest. refl)

-- System.debug(true); try { while (true) { } } catch (Exception e) { System.debug(false); } finally { System.debug(false); } System.debug(false);
-- nothing follows a limit, and what was said before stays
nothing_follows : run_behind (Charged Kind.Steps 999995 ∷ []) [] (say (truth true) ∷ try_finally (while (truth true) (block []) ∷ []) (catch ValueType-F.AnyException 0 (say (truth false) ∷ []) ∷ []) (say (truth false) ∷ []) ∷ say (truth false) ∷ []) ≡ Came (Limit Kind.Steps 1000001) 1000000 (codes "true" ∷ [])
nothing_follows = comes_behind 3 _ _ _ _ (omega arith) (λ rest. refl)

-- String s = 'f'; while (true) { s = s + s; } a text costs 16 units and one for each byte: 18 fit, and 20 don't any more
ends_at_units : run_behind (Charged Kind.Alloc 63999970 ∷ []) [] (has 0 (text (codes "f") utf8_f) ∷ while (truth true) (does (assign (at_local 0) (join (local 0) (local 0)))) ∷ []) ≡ Came (Limit Kind.Alloc 64000001) 6 []
ends_at_units = comes_behind 2 _ _ _ _ (omega arith) (λ rest. refl)

-- class R { static void f() { f(); } }: R.f(); a call charges `calls` before its step
ends_at_calls : run_behind (Charged Kind.Calls 998 ∷ []) (record (class (codes "R")) { methods = method (codes "f") 0 true (does (call 0 0 []) ∷ []) ∷ [] } ∷ []) (does (call 0 0 []) ∷ []) ≡ Came (Limit Kind.Calls 1001) 5 []
ends_at_calls = comes_behind 2 _ _ _ _ (omega arith) (λ rest. refl)

-- calls that end leave room for others: class R { static void f() { } }: R.f(); R.f();
calls_fall : run_behind (Charged Kind.Calls 999 ∷ []) (record (class (codes "R")) { methods = method (codes "f") 0 true [] ∷ [] } ∷ []) (does (call 0 0 []) ∷ does (call 0 0 []) ∷ []) ≡ Came Ok 4 []
calls_fall = comes_behind 1 _ _ _ _ (omega arith) (λ rest. refl)
