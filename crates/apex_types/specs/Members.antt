-- The walk over members (docs/language.md, "Units").
use Rattle.std.specs.Prelude.{ℕ, ◌+◌, Bool, true, false, List, [], ◌∷◌, length, slice_get, Option, None, Some}
use Rattle.apex_syntax.specs.declared.expr.Expr.{Expr}
use Rattle.apex_syntax.specs.declared.expr.TypeTree.{TypeTree}
use Rattle.apex_syntax.specs.declared.stmt.Body.{Body}
use Rattle.apex_syntax.specs.declared.unit.MemberTree.{MemberTree}
use Rattle.apex_syntax.specs.declared.unit.MemberTree.TheVariants as M
use Rattle.apex_syntax.specs.declared.unit.ParamTree.{ParamTree}
use Rattle.apex_syntax.specs.declared.unit.ResultTree.{ResultTree}
use Rattle.apex_syntax.specs.declared.word.Word.{Word}
use Rattle.apex_types.specs.Bodies.{method_body}
use Rattle.apex_types.specs.Constructors.{constructor_body}
use Rattle.apex_types.specs.Homes.{Home, setting, scene_in}
use Rattle.class_tables.specs.Lines.{is_exception}
use Rattle.class_tables.specs.declared.member.ClassMembers.{ClassMembers}
use Rattle.class_tables.specs.declared.member.FieldHead.{FieldHead}
use Rattle.class_tables.specs.declared.member.MethodHead.{MethodHead}
use Rattle.class_tables.specs.declared.member.ResultHead.TheVariants.{Void}
use Rattle.class_walk.specs.Declarations.{Locals, field_walk, signature_walk, constructor_walk}
use Rattle.class_walk.specs.Overrides.{overrides_well}
use Rattle.class_tables.specs.Lookups.{field_at, method_at}
use Rattle.statement_walk.specs.Simples.{initial}
use Rattle.static_types.specs.declared.kind.ValueType.{ValueType}
use Rattle.type_names.specs.Walks.{Walk, Gives, onward}
use Rattle.typed_program.specs.declared.unit.TypedClass.{TypedClass}
use Rattle.typed_program.specs.declared.stmt.TypedStmt.{TypedStmt}
use Rattle.typed_program.specs.declared.expr.TypedExpr.{TypedExpr}
use Rattle.apex_types.specs.OpenClasses.{field_of, with_field, method_of, with_method, with_constructor}

-- ---- what others see of the members that are walked through

abbrev pub is_static : Option FieldHead → Bool
is_static (Some f) = f.is_static
is_static None = false

abbrev pub is_static_method : Option MethodHead → Bool
is_static_method (Some m) = m.is_static
is_static_method None = false

abbrev pub flag_or : Option Bool → Bool
flag_or (Some b) = b
flag_or None = false

-- whether the member at a place is named twice
abbrev pub flag_at : List Bool → ℕ → Bool
flag_at flags n = flag_or (slice_get flags n)

-- ---- single members of the class with this number and name

module _ (h : Home) (class : ℕ) where
  abbrev pub initial_of : Bool → ValueType → Option Expr → Walk (Option TypedExpr)
  initial_of static kind value = initial (scene_in h (setting h (Some class) static false) Void) [] kind value

  -- whether the field that comes next is
  abbrev pub next_is_static : TypedClass → Bool
  next_is_static so_far = is_static (field_at h.members (record { class = class; place = length so_far.fields }))

  abbrev pub field_step : TypeTree → Word → Option Expr → Bool → TypedClass → Walk TypedClass
  field_step kind w value twice so_far =
      onward (field_walk h.names kind w twice) (λ k.
      onward (initial_of (next_is_static so_far) k value) (λ tree.
      Gives (with_field so_far (field_of (next_is_static so_far) tree))))

  abbrev pub body_where : MethodHead → Locals → Option Body → ℕ → Walk (Option (List TypedStmt))
  body_where m locals None at = Gives None
  body_where m locals (Some b) at =
      onward (method_body (scene_in h (setting h (Some class) m.is_static false) m.result) locals b at) (λ stmts. Gives (Some stmts))

  abbrev pub body_of : Option MethodHead → Locals → Option Body → ℕ → Walk (Option (List TypedStmt))
  body_of (Some m) locals body at = body_where m locals body at
  body_of None locals body at = Gives None

  -- the method that comes next
  abbrev pub head_of : TypedClass → Option MethodHead
  head_of so_far = method_at h.members (record { class = class; place = length so_far.methods })

  abbrev pub method_step : ResultTree → Word → List ParamTree → Option Body → Bool → TypedClass → Walk TypedClass
  method_step answer w params body twice so_far =
      onward (signature_walk h.names answer w params twice (overrides_well h.members h.heads class (head_of so_far))) (λ locals.
      onward (body_of (head_of so_far) locals body w.span.from) (λ stmts.
      Gives (with_method so_far (method_of w params (is_static_method (head_of so_far)) stmts))))

module _ (h : Home) (class : ℕ) (name : List ℕ) where
  abbrev pub constructor_step : Word → List ParamTree → Body → Bool → TypedClass → Walk TypedClass
  constructor_step w params body twice so_far =
      onward (constructor_walk h.names name (is_exception h.heads class) w params twice) (λ locals.
      onward (constructor_body (scene_in h (setting h (Some class) false true) Void) class locals body w.span.from) (λ made.
      Gives (with_constructor so_far made)))

  abbrev pub member_step : MemberTree → Bool → TypedClass → Walk TypedClass
  member_step (M.Field sp ms kind w value) twice so_far = field_step h class kind w value twice so_far
  member_step (M.Property sp ms kind w) twice so_far = field_step h class kind w None twice so_far
  member_step (M.Method sp ms answer w params body) twice so_far = method_step h class answer w params body twice so_far
  member_step (M.Constructor sp ms w params body) twice so_far = constructor_step w params body twice so_far

  -- from first to last, by the places where they stand
  abbrev pub members_from : List Bool → ℕ → List MemberTree → TypedClass → Walk TypedClass
  members_from flags n [] so_far = Gives so_far
  members_from flags n (t ∷ ts) so_far = onward (member_step t (flag_at flags n) so_far) (members_from flags (n + 1) ts)
