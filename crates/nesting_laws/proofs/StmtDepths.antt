-- A statement that was read nests no deeper than there was room.
use Rattle.std.specs.Prelude.{◌≡◌, ◌≤◌, ℕ, zero, suc, max, cond, List, [], ◌∷◌, Bool, true, false, Option, None, Some, option_map, map}
use Rattle.std.proofs.Common.{refl, sym, subst, ap, arith, ◌∙◌}
use Rattle.std.proofs.Math.Nat.{le_trans, max-le}
use Rattle.apex_text.specs.declared.place.Span.{Span}
use Rattle.apex_lexer.specs.declared.token.Keyword.{Keyword}
use Rattle.apex_lexer.specs.declared.token.Keyword.TheVariants as W
use Rattle.apex_lexer.specs.declared.token.Sign.TheVariants as S
use Rattle.apex_syntax.specs.Depths.{most, some, opened, type_depth, expr_depth, Nest, inner as inner_open, some_inner, some_expr, name_depth, start_depth, bare, nest_depth, all_nests, stmt_step, body_step, catch_step, stmt_nest, body_depth, catch_depth, unit_depth}
use Rattle.apex_syntax.specs.declared.expr.Expr.{Expr}
use Rattle.apex_syntax.specs.declared.expr.TypeTree.{TypeTree}
use Rattle.apex_syntax.specs.declared.stmt.Body.{Body}
use Rattle.apex_syntax.specs.declared.stmt.Catch.{Catch}
use Rattle.apex_syntax.specs.declared.stmt.Declarator.{Declarator}
use Rattle.apex_syntax.specs.declared.stmt.DmlOp.{DmlOp}
use Rattle.apex_syntax.specs.declared.stmt.ForStart.{ForStart}
use Rattle.apex_syntax.specs.declared.stmt.ForStart.TheVariants as Starts
use Rattle.apex_syntax.specs.declared.stmt.Stmt.{Stmt}
use Rattle.apex_syntax.specs.declared.stmt.Stmt.TheFolds.{fold-roll-Stmt, fold-roll-Body, fold-roll-Catch, map-Stmt, map-Body, map-Catch}
use Rattle.apex_syntax.specs.declared.stmt.Stmt.TheOpen.{Stmt-F, Body-F, Catch-F}
use Rattle.apex_syntax.specs.declared.stmt.Stmt.TheVariants as T
use Rattle.apex_syntax.specs.declared.stmt.Stmt.TheViews.{roll-Stmt, roll-Body, roll-Catch}
use Rattle.apex_syntax.specs.declared.word.Word.{Word}
use Rattle.token_grammar.specs.declared.fault.ParseWord.TheVariants.{TooDeep}
use Rattle.token_grammar.specs.Notation.{Rule, Test}
use Rattle.token_grammar.specs.Tokens.{refuse_here, optional}
use Rattle.nesting_laws.proofs.Keeps.{Keeps, gives, first, past, either, wider, many, maybe, opens_sign, opened_within, is_within, refused_here, inside_is}
use Rattle.nesting_laws.proofs.TypeDepths.{type_within}
use Rattle.apex_parse_expr.specs.Exprs.{deeper_expr}
use Rattle.nesting_laws.proofs.ExprDepths.{expr_within, args_within, deeper_expr_within}
use Rattle.apex_parse_stmt.specs.declared.part.ForHead.{ForHead}
use Rattle.apex_parse_stmt.specs.declared.part.ForHead.TheVariants as H
use Rattle.apex_parse_stmt.specs.Stmts.{block, braced, unbraced, inner, tested, if_stmt, while_stmt, do_stmt, for_rest, first_value, declarator, for_head, for_parens, for_tree, for_stmt, jump, jumps, call_stmt, dml_stmt, declare, declarators, last_part, catch, try_stmt, other, initial, stmt_with, stmt, deeper_stmt}
use Rattle.apex_parse_stmt.specs.Units.{block_unit}

-- ---- trees

abbrev pub stmt_open : Stmt → ℕ
stmt_open s = nest_depth (stmt_nest s)

abbrev StmtLayer : Type 0
StmtLayer = Stmt-F Stmt Body Catch

stmt_made : (x : StmtLayer) → stmt_nest (roll-Stmt x) ≡ stmt_step (map-Stmt _ _ _ _ _ _ stmt_nest body_depth catch_depth x)
stmt_made x = fold-roll-Stmt Nest ℕ ℕ stmt_step body_step catch_step x

body_made : (x : Body-F Stmt Body Catch) → body_depth (roll-Body x) ≡ body_step (map-Body _ _ _ _ _ _ stmt_nest body_depth catch_depth x)
body_made x = fold-roll-Body Nest ℕ ℕ stmt_step body_step catch_step x

catch_made : (x : Catch-F Stmt Body Catch) → catch_depth (roll-Catch x) ≡ catch_step (map-Catch _ _ _ _ _ _ stmt_nest body_depth catch_depth x)
catch_made x = fold-roll-Catch Nest ℕ ℕ stmt_step body_step catch_step x

block_is : (b : Body) → stmt_nest (T.Block b) ≡ record { depth = body_depth b; braced = true }
block_is b = ap stmt_nest (sym (T.rolls-Block b)) ∙ stmt_made (Stmt-F.Block b)

empty_is : (s : Span) → stmt_nest (T.Empty s) ≡ bare 0
empty_is s = ap stmt_nest (sym (T.rolls-Empty s)) ∙ stmt_made (Stmt-F.Empty s)

declare_is : (s : Span) (t : TypeTree) (ds : List Declarator) → stmt_nest (T.Declare s t ds) ≡ bare (max (type_depth t) (most (map name_depth ds)))
declare_is s t ds = ap stmt_nest (sym (T.rolls-Declare s t ds)) ∙ stmt_made (Stmt-F.Declare s t ds)

expr_is : (s : Span) (x : Expr) → stmt_nest (T.Expr s x) ≡ bare (expr_depth x)
expr_is s x = ap stmt_nest (sym (T.rolls-Expr s x)) ∙ stmt_made (Stmt-F.Expr s x)

if_is : (s : Span) (c : Expr) (a : Stmt) (o : Option Stmt) → stmt_nest (T.If s c a o) ≡ bare (max (opened (expr_depth c)) (max (inner_open (stmt_nest a)) (some_inner (option_map stmt_nest o))))
if_is s c a None = ap stmt_nest (sym (T.rolls-If s c a None)) ∙ stmt_made (Stmt-F.If s c a None)
if_is s c a (Some b) = ap stmt_nest (sym (T.rolls-If s c a (Some b))) ∙ stmt_made (Stmt-F.If s c a (Some b))

while_is : (s : Span) (c : Expr) (a : Stmt) → stmt_nest (T.While s c a) ≡ bare (max (opened (expr_depth c)) (inner_open (stmt_nest a)))
while_is s c a = ap stmt_nest (sym (T.rolls-While s c a)) ∙ stmt_made (Stmt-F.While s c a)

do_is : (s : Span) (a : Stmt) (c : Expr) → stmt_nest (T.Do s a c) ≡ bare (max (inner_open (stmt_nest a)) (opened (expr_depth c)))
do_is s a c = ap stmt_nest (sym (T.rolls-Do s a c)) ∙ stmt_made (Stmt-F.Do s a c)

for_is : (s : Span) (b : ForStart) (c p : Option Expr) (a : Stmt) → stmt_nest (T.For s b c p a) ≡ bare (max (opened (max (start_depth b) (max (some_expr c) (some_expr p)))) (inner_open (stmt_nest a)))
for_is s b c p a = ap stmt_nest (sym (T.rolls-For s b c p a)) ∙ stmt_made (Stmt-F.For s b c p a)

each_is : (s : Span) (t : TypeTree) (x : Word) (l : Expr) (a : Stmt) → stmt_nest (T.ForEach s t x l a) ≡ bare (max (opened (max (type_depth t) (expr_depth l))) (inner_open (stmt_nest a)))
each_is s t x l a = ap stmt_nest (sym (T.rolls-ForEach s t x l a)) ∙ stmt_made (Stmt-F.ForEach s t x l a)

return_is : (s : Span) (x : Option Expr) → stmt_nest (T.Return s x) ≡ bare (some_expr x)
return_is s x = ap stmt_nest (sym (T.rolls-Return s x)) ∙ stmt_made (Stmt-F.Return s x)

break_is : (s : Span) → stmt_nest (T.Break s) ≡ bare 0
break_is s = ap stmt_nest (sym (T.rolls-Break s)) ∙ stmt_made (Stmt-F.Break s)

continue_is : (s : Span) → stmt_nest (T.Continue s) ≡ bare 0
continue_is s = ap stmt_nest (sym (T.rolls-Continue s)) ∙ stmt_made (Stmt-F.Continue s)

throw_is : (s : Span) (x : Expr) → stmt_nest (T.Throw s x) ≡ bare (expr_depth x)
throw_is s x = ap stmt_nest (sym (T.rolls-Throw s x)) ∙ stmt_made (Stmt-F.Throw s x)

try_is : (s : Span) (b : Body) (cs : List Catch) (f : Option Body) → stmt_nest (T.Try s b cs f) ≡ bare (max (body_depth b) (max (most (map catch_depth cs)) (some (option_map body_depth f))))
try_is s b cs None = ap stmt_nest (sym (T.rolls-Try s b cs None)) ∙ stmt_made (Stmt-F.Try s b cs None)
try_is s b cs (Some f) = ap stmt_nest (sym (T.rolls-Try s b cs (Some f))) ∙ stmt_made (Stmt-F.Try s b cs (Some f))

dml_is : (s : Span) (o : DmlOp) (x : Expr) → stmt_nest (T.Dml s o x) ≡ bare (expr_depth x)
dml_is s o x = ap stmt_nest (sym (T.rolls-Dml s o x)) ∙ stmt_made (Stmt-F.Dml s o x)

this_is : (s : Span) (xs : List Expr) → stmt_nest (T.This s xs) ≡ bare (opened (most (map expr_depth xs)))
this_is s xs = ap stmt_nest (sym (T.rolls-This s xs)) ∙ stmt_made (Stmt-F.This s xs)

super_is : (s : Span) (xs : List Expr) → stmt_nest (T.Super s xs) ≡ bare (opened (most (map expr_depth xs)))
super_is s xs = ap stmt_nest (sym (T.rolls-Super s xs)) ∙ stmt_made (Stmt-F.Super s xs)

nests_are : (xs : List Stmt) → all_nests (map stmt_nest xs) ≡ most (map stmt_open xs)
nests_are [] = refl
nests_are (x ∷ xs) = ap (max (stmt_open x)) (nests_are xs)

body_is : (s : Span) (xs : List Stmt) → body_depth (record { span = s; stmts = xs }) ≡ opened (most (map stmt_open xs))
body_is s xs = body_made (record { span = s; stmts = xs }) ∙ ap opened (nests_are xs)

catch_is : (s : Span) (q : Word) (m : Option Word) (x : Word) (b : Body) → catch_depth (record { span = s; class = q; member = m; name = x; body = b }) ≡ body_depth b
catch_is s q m x b = catch_made (record { span = s; class = q; member = m; name = x; body = b })

nest_within : {x : Nest} {m n : ℕ} → x ≡ bare m → m ≤ n → nest_depth x ≤ n
nest_within {n = n} e h = subst (λ y. nest_depth y ≤ n) (sym e) h

-- ---- statements in others

-- no more forms are opened in what is read in a form that is opened than may be, where `room` may be opened before it
abbrev pub InnerStmt : Rule Stmt → ℕ → Type 0
InnerStmt s room = (inside : ℕ) → room ≡ suc inside → Keeps s (λ x. stmt_open x ≤ inside)

deeper : (room inside : ℕ) → room ≡ suc inside → inside ≤ room
deeper room inside e = omega arith

either_way : (b : Bool) (d room inside : ℕ) → room ≡ suc inside → d ≤ inside → cond b d (opened d) ≤ room
either_way true d room inside e h = le_trans h (deeper room inside e)
either_way false d room inside e h = opened_within h e

module _ (room : ℕ) (s : Rule Stmt) (k : InnerStmt s room) where
  pub block_within : Keeps (block room s) (λ b. body_depth b ≤ room)
  block_within =
      past (λ i. first (opens_sign S.OpenBrace room) (λ inside o. first (many stmt_open (k inside o)) (λ xs h. past (λ u. past (λ sp.
      gives (is_within (body_is sp xs) (opened_within h o)))))))

  braced_within : Keeps (braced room s) (λ x. (inner_open (stmt_nest x) ≤ room) × (stmt_open x ≤ room))
  braced_within = first block_within (λ b h. gives (subst (λ n. inner_open n ≤ room) (sym (block_is b)) h, subst (λ n. nest_depth n ≤ room) (sym (block_is b)) h))

unbraced_within : (room : ℕ) (s : Rule Stmt) → InnerStmt s room → Keeps (unbraced room s) (λ x. inner_open (stmt_nest x) ≤ room)
unbraced_within zero s k = either refused_here refused_here
unbraced_within (suc room) s k = wider (λ x h. either_way (stmt_nest x).braced (stmt_open x) (suc room) room refl h) (k room refl)

inner_within : (room : ℕ) (s : Rule Stmt) → InnerStmt s room → Keeps (inner room s) (λ x. inner_open (stmt_nest x) ≤ room)
inner_within room s k = either (wider (λ x h. h.0) (braced_within room s k)) (unbraced_within room s k)

tested_within : (room : ℕ) → Keeps (tested room) (λ c. opened (expr_depth c) ≤ room)
tested_within room = first (opens_sign S.OpenParen room) (λ inside o. first (expr_within inside) (λ x h. past (λ u. gives (opened_within h o))))

-- ---- what stands in the parentheses of a `for`

abbrev head_open : ForHead → ℕ
head_open (H.Each t x l) = max (type_depth t) (expr_depth l)
head_open (H.Loop b c p) = max (start_depth b) (max (some_expr c) (some_expr p))

rest_within : (room : ℕ) (b : ForStart) → start_depth b ≤ room → Keeps (for_rest room b) (λ h. head_open h ≤ room)
rest_within room b h =
    past (λ u. first {Q = λ c. some_expr c ≤ room} (either (gives (omega arith)) (first (expr_within room) (λ x g. gives g))) (λ c i. past (λ v.
    first {Q = λ p. some_expr p ≤ room} (either (gives (omega arith)) (first (expr_within room) (λ x g. gives g))) (λ p j. gives (max-le h (max-le i j))))))

value_within : (room : ℕ) (x : Word) → Keeps (first_value room x) (λ d. name_depth d ≤ room)
value_within room x = past (λ u. first (expr_within room) (λ v h. gives h))

head_within : (room : ℕ) → Keeps (for_head room) (λ h. head_open h ≤ room)
head_within room =
    either (rest_within room Starts.Nothing (omega arith))
    (either (first (type_within room) (λ t h. past (λ x. either (past (λ u. first (expr_within room) (λ l g. gives (max-le h g))))
    (first {Q = λ ds. most (map name_depth ds) ≤ room} (first (value_within room x) (λ d g. first (many name_depth (past (λ u. past (λ y. value_within room y)))) (λ ds f. gives (max-le g f))))
    (λ ds g. rest_within room (Starts.Declare t ds) (max-le h g))))))
    (first (expr_within room) (λ x h. rest_within room (Starts.Expr x) h)))

parens_within : (room : ℕ) → Keeps (for_parens room) (λ h. opened (head_open h) ≤ room)
parens_within room = first (opens_sign S.OpenParen room) (λ inside o. first (head_within inside) (λ h g. past (λ u. gives (opened_within g o))))

tree_within : (room : ℕ) (sp : Span) (h : ForHead) (s : Stmt) → opened (head_open h) ≤ room → inner_open (stmt_nest s) ≤ room → stmt_open (for_tree sp h s) ≤ room
tree_within room sp (H.Each t x l) s i j = nest_within (each_is sp t x l s) (max-le i j)
tree_within room sp (H.Loop b c p) s i j = nest_within (for_is sp b c p s) (max-le i j)

-- ---- leaves

jump_within : (room : ℕ) (k : Keyword) (make : Span → Stmt) → ((sp : Span) → stmt_nest (make sp) ≡ bare 0) → Keeps (jump k make) (λ x. stmt_open x ≤ room)
jump_within room k make e = past (λ i. past (λ u. past (λ v. past (λ sp. gives (nest_within (e sp) (omega arith))))))

call_within : (room : ℕ) (k : Keyword) (make : Span → List Expr → Stmt) → ((sp : Span) (xs : List Expr) → stmt_nest (make sp xs) ≡ bare (opened (most (map expr_depth xs)))) → Keeps (call_stmt k make room) (λ x. stmt_open x ≤ room)
call_within room k make e = past (λ i. past (λ u. first (args_within room (deeper_expr room) (deeper_expr_within room)) (λ xs h. past (λ v. past (λ sp. gives (nest_within (e sp xs) h))))))

pub initial_within : (room : ℕ) → Keeps (initial room) (λ x. expr_depth x ≤ room)
initial_within room = past (λ u. expr_within room)

-- a value, where one is written
pub value_part : (room : ℕ) (test : Test) → Keeps (optional test (initial room)) (λ o. some_expr o ≤ room)
value_part room test = either (first (initial_within room) (λ x h. gives h)) (gives (omega arith))

declarator_within : (room : ℕ) → Keeps (declarator room) (λ d. name_depth d ≤ room)
declarator_within room = past (λ x. first {Q = λ o. some_expr o ≤ room} (either (first (initial_within room) (λ y h. gives h)) (gives (omega arith))) (λ v h. gives h))

declarators_within : (room : ℕ) → Keeps (declarators room) (λ ds. most (map name_depth ds) ≤ room)
declarators_within room = first (declarator_within room) (λ d h. first (many name_depth (past (λ u. declarator_within room))) (λ ds g. gives (max-le h g)))

declare_within : (room : ℕ) → Keeps (declare room) (λ x. stmt_open x ≤ room)
declare_within room = past (λ i. first (type_within room) (λ t h. first (declarators_within room) (λ ds g. past (λ u. past (λ sp. gives (nest_within (declare_is sp t ds) (max-le h g)))))))

jumps_within : (room : ℕ) → Keeps (jumps room) (λ x. stmt_open x ≤ room)
jumps_within room =
    either (past (λ i. past (λ u. first {Q = λ o. some_expr o ≤ room} (either (gives (omega arith)) (first (expr_within room) (λ x h. gives h))) (λ x h. past (λ v. past (λ sp. gives (nest_within (return_is sp x) h)))))))
    (either (jump_within room W.Break T.Break break_is)
    (either (jump_within room W.Continue T.Continue continue_is)
    (past (λ i. past (λ u. first (expr_within room) (λ x h. past (λ v. past (λ sp. gives (nest_within (throw_is sp x) h)))))))))

other_within : (room : ℕ) → Keeps (other room) (λ x. stmt_open x ≤ room)
other_within room =
    either (call_within room W.This T.This this_is)
    (either (call_within room W.Super T.Super super_is)
    (either (declare_within room) (past (λ i. first (expr_within room) (λ x h. past (λ u. past (λ sp. gives (nest_within (expr_is sp x) h))))))))

dml_within : (room : ℕ) → Keeps (dml_stmt room) (λ x. stmt_open x ≤ room)
dml_within room = past (λ i. past (λ o. first (expr_within room) (λ x h. past (λ u. past (λ sp. gives (nest_within (dml_is sp o x) h))))))

-- ---- statements

module _ (room : ℕ) (s : Rule Stmt) (k : InnerStmt s room) where
  if_within : Keeps (if_stmt room s) (λ x. stmt_open x ≤ room)
  if_within =
      past (λ i. past (λ u. first (tested_within room) (λ c h.
      first {Q = λ w. (inner_open (stmt_nest w.yes) ≤ room) × (some_inner (option_map stmt_nest w.no) ≤ room)}
      (first (inner_within room s k) (λ a g. first {Q = λ o. some_inner (option_map stmt_nest o) ≤ room} (either (first (past (λ v. inner_within room s k)) (λ b f. gives f)) (gives (omega arith))) (λ b f. gives (g, f))))
      (λ w g. past (λ sp. gives (nest_within (if_is sp c w.yes w.no) (max-le h (max-le g.0 g.1))))))))

  while_within : Keeps (while_stmt room s) (λ x. stmt_open x ≤ room)
  while_within = past (λ i. past (λ u. first (tested_within room) (λ c h. first (inner_within room s k) (λ a g. past (λ sp. gives (nest_within (while_is sp c a) (max-le h g)))))))

  do_within : Keeps (do_stmt room s) (λ x. stmt_open x ≤ room)
  do_within =
      past (λ i. past (λ u. first (inner_within room s k) (λ a g.
      first {Q = λ c. opened (expr_depth c) ≤ room} (past (λ v. first (tested_within room) (λ c h. past (λ w. gives h))))
      (λ c h. past (λ sp. gives (nest_within (do_is sp a c) (max-le g h)))))))

  for_within : Keeps (for_stmt room s) (λ x. stmt_open x ≤ room)
  for_within = past (λ i. past (λ u. first (parens_within room) (λ h g. first (inner_within room s k) (λ a f. past (λ sp. gives (tree_within room sp h a g f))))))

  catch_within : Keeps (catch room s) (λ c. catch_depth c ≤ room)
  catch_within = past (λ i. past (λ h. first (block_within room s k) (λ b g. past (λ sp. gives (is_within (catch_is sp h.class h.member h.name b) g)))))

  last_within : (cs : List Catch) → Keeps (last_part room s cs) (λ f. some (option_map body_depth f) ≤ room)
  last_within [] = first (past (λ u. block_within room s k)) (λ b h. gives h)
  last_within (c ∷ cs) = maybe body_depth (past (λ u. block_within room s k))

  try_within : Keeps (try_stmt room s) (λ x. stmt_open x ≤ room)
  try_within =
      past (λ i. past (λ u. first (block_within room s k) (λ b h. first (many catch_depth catch_within) (λ cs g. first (last_within cs) (λ f j.
      past (λ sp. gives (nest_within (try_is sp b cs f) (max-le h (max-le g j)))))))))

  stmt_with_within : Keeps (stmt_with room s) (λ x. stmt_open x ≤ room)
  stmt_with_within =
      either (wider (λ x h. h.1) (braced_within room s k))
      (either (past (λ i. past (λ u. past (λ sp. gives (nest_within (empty_is sp) (omega arith))))))
      (either (either try_within (either if_within (either while_within (either do_within for_within))))
      (either (jumps_within room) (either (dml_within room) (other_within room)))))

pub stmt_within : (room : ℕ) → Keeps (stmt room) (λ x. stmt_open x ≤ room)
unfolding stmt
stmt_within zero = stmt_with_within zero (refuse_here TooDeep) (λ inside o. refused_here)
stmt_within (suc room) = stmt_with_within (suc room) (stmt room) (λ inside o. inside_is stmt_open o (stmt_within room))

pub deeper_stmt_within : (room : ℕ) → InnerStmt (deeper_stmt room) room
deeper_stmt_within zero inside o = refused_here
deeper_stmt_within (suc room) inside o = inside_is stmt_open o (stmt_within room)

pub block_unit_within : (room : ℕ) → Keeps (block_unit room) (λ u. unit_depth u ≤ room)
block_unit_within room = first (first (many stmt_open (stmt_within room)) (λ xs h. past (λ u. gives h))) (λ xs h. gives (is_within (nests_are xs) h))
