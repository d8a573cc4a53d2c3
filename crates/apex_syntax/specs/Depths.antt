-- How many forms are open at once in a tree, at the most (docs/language.md, "Types and expressions, as they are read",
-- and what follows it).
--
-- Each step says it of one tree, where it is known of the trees in it.
use Rattle.std.specs.Prelude.{ℕ, ◌+◌, min, max, eqb, Bool, true, false, cond, List, [], ◌∷◌, map, Option, None, Some}
use Rattle.apex_syntax.specs.declared.expr.TypeTree.{TypeTree}
use Rattle.apex_syntax.specs.declared.expr.TypeTree.TheOpen.{TypeTree-F}
use Rattle.apex_syntax.specs.declared.expr.TypeTree.TheFolds.{fold-TypeTree}
use Rattle.apex_syntax.specs.declared.expr.Expr.{Expr}
use Rattle.apex_syntax.specs.declared.expr.Expr.TheOpen.{Expr-F, NewPart-F, PostfixPart-F, BindTree-F, CondTree-F, CountTree-F, ListTree-F, SelTree-F, SelectTree-F, ValueTree-F, FieldValue-F, NewItem-F, Operand-F, QueryTree-F}
use Rattle.apex_syntax.specs.declared.expr.Expr.TheFolds.{fold-Expr, fold-NewPart, fold-PostfixPart, fold-BindTree, fold-CondTree, fold-CountTree, fold-ListTree, fold-SelTree, fold-SelectTree, fold-ValueTree, fold-FieldValue, fold-NewItem, fold-Operand, fold-QueryTree}
use Rattle.apex_syntax.specs.declared.expr.NewPart.{NewPart}
use Rattle.apex_syntax.specs.declared.expr.PostfixPart.{PostfixPart}
use Rattle.apex_syntax.specs.declared.query.BindTree.{BindTree}
use Rattle.apex_syntax.specs.declared.query.CondTree.{CondTree}
use Rattle.apex_syntax.specs.declared.query.CountTree.{CountTree}
use Rattle.apex_syntax.specs.declared.query.ListTree.{ListTree}
use Rattle.apex_syntax.specs.declared.query.SelTree.{SelTree}
use Rattle.apex_syntax.specs.declared.query.SelectTree.{SelectTree}
use Rattle.apex_syntax.specs.declared.query.ValueTree.{ValueTree}
use Rattle.apex_syntax.specs.declared.expr.FieldValue.{FieldValue}
use Rattle.apex_syntax.specs.declared.expr.NewItem.{NewItem}
use Rattle.apex_syntax.specs.declared.expr.Operand.{Operand}
use Rattle.apex_syntax.specs.declared.query.QueryTree.{QueryTree}
use Rattle.apex_syntax.specs.declared.stmt.Body.{Body}
use Rattle.apex_syntax.specs.declared.stmt.Stmt.{Stmt}
use Rattle.apex_syntax.specs.declared.stmt.Stmt.TheOpen.{Stmt-F, Body-F, Catch-F}
use Rattle.apex_syntax.specs.declared.stmt.Stmt.TheFolds.{fold-Stmt, fold-Body, fold-Catch}
use Rattle.apex_syntax.specs.declared.stmt.Catch.{Catch}
use Rattle.apex_syntax.specs.declared.stmt.Declarator.{Declarator}
use Rattle.apex_syntax.specs.declared.stmt.ForStart.{ForStart}
use Rattle.apex_syntax.specs.declared.stmt.ForStart.TheVariants as Start
use Rattle.apex_syntax.specs.declared.unit.MemberTree.{MemberTree}
use Rattle.apex_syntax.specs.declared.unit.MemberTree.TheVariants as Member
use Rattle.apex_syntax.specs.declared.unit.ResultTree.{ResultTree}
use Rattle.apex_syntax.specs.declared.unit.ResultTree.TheVariants as Answer
use Rattle.apex_syntax.specs.declared.unit.ParamTree.{ParamTree}
use Rattle.apex_syntax.specs.declared.unit.SignatureTree.{SignatureTree}
use Rattle.apex_syntax.specs.declared.unit.Unit.{Unit as Tree}
use Rattle.apex_syntax.specs.declared.unit.Unit.TheVariants.{Class, Interface, Trigger, Block}

-- the greatest of these, and 0 of none
abbrev pub most : List ℕ → ℕ
most [] = 0
most (n ∷ ns) = max n (most ns)

-- what may be absent
abbrev pub some : Option ℕ → ℕ
some None = 0
some (Some n) = n

-- in a form that is opened; it is counted up to 2^64 - 1
abbrev pub opened : ℕ → ℕ
opened n = min (n + 1) 18446744073709551615

-- ---- types

-- `<` and `>`
abbrev pub args_open : List ℕ → ℕ
args_open [] = 0
args_open (n ∷ ns) = opened (most (n ∷ ns))

-- pairs of `[` and `]`
abbrev pub arrays_open : ℕ → ℕ
arrays_open n = cond (eqb n 0) 0 1

abbrev pub type_step : TypeTree-F ℕ → ℕ
type_step t = max (args_open t.args) (arrays_open t.arrays)

abbrev pub type_depth : TypeTree → ℕ
type_depth = fold-TypeTree ℕ type_step

-- ---- expressions and queries

abbrev pub expr_step : Expr-F ℕ ℕ ℕ ℕ ℕ ℕ ℕ ℕ ℕ ℕ ℕ ℕ ℕ ℕ → ℕ
expr_step (Expr-F.«Expr::Call» sp w args) = opened (most args)
expr_step (Expr-F.«Expr::Paren» sp x) = opened x
expr_step (Expr-F.New sp t part) = max (type_depth t) part
expr_step (Expr-F.«Expr::Query» sp q) = opened q
expr_step (Expr-F.Postfix sp x parts) = max x (most parts)
expr_step (Expr-F.Prefix sp o x) = opened x
expr_step (Expr-F.Cast sp t x) = opened (max (type_depth t) x)
expr_step (Expr-F.Chain sp x rights) = max x (most rights)
expr_step (Expr-F.Conditional sp c x y) = max c (opened (max x y))
expr_step (Expr-F.Assign sp x o v) = max x (opened v)
expr_step _ = 0

abbrev pub new_step : NewPart-F ℕ ℕ ℕ ℕ ℕ ℕ ℕ ℕ ℕ ℕ ℕ ℕ ℕ ℕ → ℕ
new_step (NewPart-F.Args sp xs) = opened (most xs)
new_step (NewPart-F.Fields sp fs) = opened (most fs)
new_step (NewPart-F.«NewPart::Items» sp xs) = opened (most xs)

abbrev pub part_step : PostfixPart-F ℕ ℕ ℕ ℕ ℕ ℕ ℕ ℕ ℕ ℕ ℕ ℕ ℕ ℕ → ℕ
part_step (PostfixPart-F.«PostfixPart::Call» sp w xs) = opened (most xs)
part_step (PostfixPart-F.Index sp x) = opened x
part_step _ = 0

-- tokens that are kept as they are count as nothing
abbrev pub bind_step : BindTree-F ℕ ℕ ℕ ℕ ℕ ℕ ℕ ℕ ℕ ℕ ℕ ℕ ℕ ℕ → ℕ
bind_step (BindTree-F.Tokens r) = 0
bind_step (BindTree-F.Expr sp x) = x

abbrev pub cond_step : CondTree-F ℕ ℕ ℕ ℕ ℕ ℕ ℕ ℕ ℕ ℕ ℕ ℕ ℕ ℕ → ℕ
cond_step (CondTree-F.All sp cs) = most cs
cond_step (CondTree-F.Any sp cs) = most cs
cond_step (CondTree-F.Not sp c) = opened c
cond_step (CondTree-F.«CondTree::Paren» sp c) = opened c
cond_step (CondTree-F.Compare sp p o v) = v
cond_step (CondTree-F.Within sp p n l) = l

abbrev pub count_step : CountTree-F ℕ ℕ ℕ ℕ ℕ ℕ ℕ ℕ ℕ ℕ ℕ ℕ ℕ ℕ → ℕ
count_step (CountTree-F.Whole sp n) = 0
count_step (CountTree-F.«CountTree::Bind» b) = b

abbrev pub list_step : ListTree-F ℕ ℕ ℕ ℕ ℕ ℕ ℕ ℕ ℕ ℕ ℕ ℕ ℕ ℕ → ℕ
list_step (ListTree-F.Values sp vs) = opened (most vs)
list_step (ListTree-F.«ListTree::Bind» b) = b

abbrev pub sel_step : SelTree-F ℕ ℕ ℕ ℕ ℕ ℕ ℕ ℕ ℕ ℕ ℕ ℕ ℕ ℕ → ℕ
sel_step (SelTree-F.Path p) = 0
sel_step (SelTree-F.«SelTree::Query» sp q) = opened q

abbrev pub select_step : SelectTree-F ℕ ℕ ℕ ℕ ℕ ℕ ℕ ℕ ℕ ℕ ℕ ℕ ℕ ℕ → ℕ
select_step (SelectTree-F.Count sp) = 1
select_step (SelectTree-F.«SelectTree::Items» ss) = most ss

abbrev pub value_step : ValueTree-F ℕ ℕ ℕ ℕ ℕ ℕ ℕ ℕ ℕ ℕ ℕ ℕ ℕ ℕ → ℕ
value_step (ValueTree-F.«ValueTree::Bind» b) = b
value_step _ = 0

abbrev pub field_step : FieldValue-F ℕ ℕ ℕ ℕ ℕ ℕ ℕ ℕ ℕ ℕ ℕ ℕ ℕ ℕ → ℕ
field_step f = f.value

abbrev pub item_step : NewItem-F ℕ ℕ ℕ ℕ ℕ ℕ ℕ ℕ ℕ ℕ ℕ ℕ ℕ ℕ → ℕ
item_step i = max i.item (some i.value)

abbrev pub operand_step : Operand-F ℕ ℕ ℕ ℕ ℕ ℕ ℕ ℕ ℕ ℕ ℕ ℕ ℕ ℕ → ℕ
operand_step o = o.right

abbrev pub query_step : QueryTree-F ℕ ℕ ℕ ℕ ℕ ℕ ℕ ℕ ℕ ℕ ℕ ℕ ℕ ℕ → ℕ
query_step q = max q.select (max (some q.«cond») (max (some q.limit) (some q.offset)))

abbrev pub expr_depth : Expr → ℕ
expr_depth = fold-Expr ℕ ℕ ℕ ℕ ℕ ℕ ℕ ℕ ℕ ℕ ℕ ℕ ℕ ℕ expr_step new_step part_step bind_step cond_step count_step list_step sel_step select_step value_step field_step item_step operand_step query_step

abbrev pub new_depth : NewPart → ℕ
new_depth = fold-NewPart ℕ ℕ ℕ ℕ ℕ ℕ ℕ ℕ ℕ ℕ ℕ ℕ ℕ ℕ expr_step new_step part_step bind_step cond_step count_step list_step sel_step select_step value_step field_step item_step operand_step query_step

abbrev pub part_depth : PostfixPart → ℕ
part_depth = fold-PostfixPart ℕ ℕ ℕ ℕ ℕ ℕ ℕ ℕ ℕ ℕ ℕ ℕ ℕ ℕ expr_step new_step part_step bind_step cond_step count_step list_step sel_step select_step value_step field_step item_step operand_step query_step

abbrev pub bind_depth : BindTree → ℕ
bind_depth = fold-BindTree ℕ ℕ ℕ ℕ ℕ ℕ ℕ ℕ ℕ ℕ ℕ ℕ ℕ ℕ expr_step new_step part_step bind_step cond_step count_step list_step sel_step select_step value_step field_step item_step operand_step query_step

abbrev pub cond_depth : CondTree → ℕ
cond_depth = fold-CondTree ℕ ℕ ℕ ℕ ℕ ℕ ℕ ℕ ℕ ℕ ℕ ℕ ℕ ℕ expr_step new_step part_step bind_step cond_step count_step list_step sel_step select_step value_step field_step item_step operand_step query_step

abbrev pub count_depth : CountTree → ℕ
count_depth = fold-CountTree ℕ ℕ ℕ ℕ ℕ ℕ ℕ ℕ ℕ ℕ ℕ ℕ ℕ ℕ expr_step new_step part_step bind_step cond_step count_step list_step sel_step select_step value_step field_step item_step operand_step query_step

abbrev pub list_depth : ListTree → ℕ
list_depth = fold-ListTree ℕ ℕ ℕ ℕ ℕ ℕ ℕ ℕ ℕ ℕ ℕ ℕ ℕ ℕ expr_step new_step part_step bind_step cond_step count_step list_step sel_step select_step value_step field_step item_step operand_step query_step

abbrev pub sel_depth : SelTree → ℕ
sel_depth = fold-SelTree ℕ ℕ ℕ ℕ ℕ ℕ ℕ ℕ ℕ ℕ ℕ ℕ ℕ ℕ expr_step new_step part_step bind_step cond_step count_step list_step sel_step select_step value_step field_step item_step operand_step query_step

abbrev pub select_depth : SelectTree → ℕ
select_depth = fold-SelectTree ℕ ℕ ℕ ℕ ℕ ℕ ℕ ℕ ℕ ℕ ℕ ℕ ℕ ℕ expr_step new_step part_step bind_step cond_step count_step list_step sel_step select_step value_step field_step item_step operand_step query_step

abbrev pub value_depth : ValueTree → ℕ
value_depth = fold-ValueTree ℕ ℕ ℕ ℕ ℕ ℕ ℕ ℕ ℕ ℕ ℕ ℕ ℕ ℕ expr_step new_step part_step bind_step cond_step count_step list_step sel_step select_step value_step field_step item_step operand_step query_step

abbrev pub field_depth : FieldValue → ℕ
field_depth = fold-FieldValue ℕ ℕ ℕ ℕ ℕ ℕ ℕ ℕ ℕ ℕ ℕ ℕ ℕ ℕ expr_step new_step part_step bind_step cond_step count_step list_step sel_step select_step value_step field_step item_step operand_step query_step

abbrev pub item_depth : NewItem → ℕ
item_depth = fold-NewItem ℕ ℕ ℕ ℕ ℕ ℕ ℕ ℕ ℕ ℕ ℕ ℕ ℕ ℕ expr_step new_step part_step bind_step cond_step count_step list_step sel_step select_step value_step field_step item_step operand_step query_step

abbrev pub operand_depth : Operand → ℕ
operand_depth = fold-Operand ℕ ℕ ℕ ℕ ℕ ℕ ℕ ℕ ℕ ℕ ℕ ℕ ℕ ℕ expr_step new_step part_step bind_step cond_step count_step list_step sel_step select_step value_step field_step item_step operand_step query_step

abbrev pub query_depth : QueryTree → ℕ
query_depth = fold-QueryTree ℕ ℕ ℕ ℕ ℕ ℕ ℕ ℕ ℕ ℕ ℕ ℕ ℕ ℕ expr_step new_step part_step bind_step cond_step count_step list_step sel_step select_step value_step field_step item_step operand_step query_step

-- ---- statements: how many forms are open in one, and whether it has braces of its own

pub record Nest : Type 0 where
  pub depth : ℕ
  pub braced : Bool

-- a statement in another one counts where it has no braces
abbrev pub inner : Nest → ℕ
inner n = cond n.braced n.depth (opened n.depth)

abbrev pub some_inner : Option Nest → ℕ
some_inner None = 0
some_inner (Some n) = inner n

abbrev pub some_expr : Option Expr → ℕ
some_expr None = 0
some_expr (Some x) = expr_depth x

abbrev pub name_depth : Declarator → ℕ
name_depth d = some_expr d.value

abbrev pub start_depth : ForStart → ℕ
start_depth Start.Nothing = 0
start_depth (Start.Declare t ds) = max (type_depth t) (most (map name_depth ds))
start_depth (Start.Expr x) = expr_depth x

abbrev pub bare : ℕ → Nest
bare n = record { depth = n; braced = false }

abbrev pub nest_depth : Nest → ℕ
nest_depth n = n.depth

abbrev pub all_nests : List Nest → ℕ
all_nests ns = most (map nest_depth ns)

abbrev pub stmt_step : Stmt-F Nest ℕ ℕ → Nest
stmt_step (Stmt-F.Block b) = record { depth = b; braced = true }
stmt_step (Stmt-F.Declare sp t ds) = bare (max (type_depth t) (most (map name_depth ds)))
stmt_step (Stmt-F.Expr sp x) = bare (expr_depth x)
stmt_step (Stmt-F.If sp c s o) = bare (max (opened (expr_depth c)) (max (inner s) (some_inner o)))
stmt_step (Stmt-F.While sp c s) = bare (max (opened (expr_depth c)) (inner s))
stmt_step (Stmt-F.Do sp s c) = bare (max (inner s) (opened (expr_depth c)))
stmt_step (Stmt-F.For sp b c p s) = bare (max (opened (max (start_depth b) (max (some_expr c) (some_expr p)))) (inner s))
stmt_step (Stmt-F.ForEach sp t x l s) = bare (max (opened (max (type_depth t) (expr_depth l))) (inner s))
stmt_step (Stmt-F.Return sp x) = bare (some_expr x)
stmt_step (Stmt-F.Throw sp x) = bare (expr_depth x)
stmt_step (Stmt-F.Try sp b cs f) = bare (max b (max (most cs) (some f)))
stmt_step (Stmt-F.Dml sp o x) = bare (expr_depth x)
stmt_step (Stmt-F.This sp xs) = bare (opened (most (map expr_depth xs)))
stmt_step (Stmt-F.Super sp xs) = bare (opened (most (map expr_depth xs)))
stmt_step _ = bare 0

abbrev pub body_step : Body-F Nest ℕ ℕ → ℕ
body_step b = opened (all_nests b.stmts)

-- its parentheses are closed before its braces open
abbrev pub catch_step : Catch-F Nest ℕ ℕ → ℕ
catch_step c = c.body

abbrev pub stmt_nest : Stmt → Nest
stmt_nest = fold-Stmt Nest ℕ ℕ stmt_step body_step catch_step

abbrev pub body_depth : Body → ℕ
body_depth = fold-Body Nest ℕ ℕ stmt_step body_step catch_step

abbrev pub catch_depth : Catch → ℕ
catch_depth = fold-Catch Nest ℕ ℕ stmt_step body_step catch_step

-- ---- units

abbrev pub some_body : Option Body → ℕ
some_body None = 0
some_body (Some b) = body_depth b

abbrev pub result_depth : ResultTree → ℕ
result_depth (Answer.Void sp) = 0
result_depth (Answer.«Type» t) = type_depth t

abbrev pub param_depth : ParamTree → ℕ
param_depth p = type_depth p.kind

abbrev pub params_depth : List ParamTree → ℕ
params_depth ps = opened (most (map param_depth ps))

abbrev pub member_depth : MemberTree → ℕ
member_depth (Member.Field sp ms t x v) = max (type_depth t) (some_expr v)
member_depth (Member.Property sp ms t x) = max (type_depth t) 1
member_depth (Member.Method sp ms r x ps b) = max (result_depth r) (max (params_depth ps) (some_body b))
member_depth (Member.Constructor sp ms x ps b) = max (params_depth ps) (body_depth b)

abbrev pub signature_depth : SignatureTree → ℕ
signature_depth s = max (result_depth s.result) (params_depth s.params)

abbrev pub unit_depth : Tree → ℕ
unit_depth (Class c) = opened (most (map member_depth c.members))
unit_depth (Interface i) = opened (most (map signature_depth i.methods))
unit_depth (Trigger t) = max (body_depth t.body) 1
unit_depth (Block ss) = all_nests (map stmt_nest ss)
