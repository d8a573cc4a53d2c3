-- What expressions begin with.
use Rattle.std.specs.Prelude.{◌≡◌, ◌||◌, ◌⊎◌, ◌+◌, ℕ, zero, suc, List, Bool, true, false, Option, Some, None, IsSome, cond, slice_get}
use Rattle.std.specs.Option.{is_some}
use Rattle.std.proofs.Common.{refl, sym, subst, ap, ◌∙◌, inl, inr, true≢false}
use Rattle.std.proofs.lemmas.Option.{none-some}
use Rattle.apex_text.specs.declared.place.Span.{Span}
use Rattle.apex_lexer.specs.Reading.{Shown}
use Rattle.apex_lexer.specs.declared.token.Keyword.{Keyword}
use Rattle.apex_lexer.specs.declared.token.Sign.{Sign}
use Rattle.apex_lexer.specs.declared.token.Sign.TheVariants.{OpenParen, OpenBracket}
use Rattle.apex_lexer.specs.declared.token.TokenKind.{TokenKind}
use Rattle.apex_lexer.specs.declared.token.TokenKind.TheVariants as Kinds
use Rattle.apex_syntax.specs.declared.expr.Expr.{Expr}
use Rattle.apex_syntax.specs.declared.expr.TypeTree.{TypeTree}
use Rattle.apex_syntax.specs.declared.query.QueryTree.{QueryTree}
use Rattle.token_grammar.specs.declared.fault.ParseWord.TheVariants.{TooDeep}
use Rattle.token_grammar.specs.declared.read.Names.TheVariants.{InCode}
use Rattle.token_grammar.specs.Notation.{Rule, Test, Reads, kind_at, kind_of, span}
use Rattle.token_grammar.specs.Tokens.{is_name, next_name, open_sign, refuse_here, named}
use Rattle.apex_parse_leaf.specs.declared.level.Level.{Level}
use Rattle.apex_parse_leaf.specs.Types.{type, type_with, deeper_type}
use Rattle.apex_parse_leaf.specs.Casts.{begins_operand, begins_operand_word}
use Rattle.apex_parse_leaf.specs.Leaves.{step, next_step, step_kind, is_step, prefix_op, next_prefix, prefix_kind, is_prefix, op, next_op, level_op, assign_op, next_assign, assign_kind, next_part, begins_part, simple, simple_kind, word_expr}
use Rattle.apex_parse_expr.specs.declared.part.Part.{Part}
use Rattle.apex_parse_expr.specs.Exprs.{expr, expr_with, unary, unary_with, part, deeper_expr, deeper_query, primary, disjunctions, conjunctions, equalities, orders, sums, products}
use Rattle.apex_parse_expr.specs.Laws.{Begins, Meets, next_expr, TokenLaws, BeginLaws}
use Rattle.apex_parse_expr.proofs.Tables.{step_table, prefix_table, word_table, is_new}

-- ---- single tokens

-- a test of what a token says, where one was read
at_token : (P : TokenKind → Type 0) (tokens : List Shown) (at : ℕ) (t : Shown) → slice_get tokens at ≡ Some t → P t.kind → P (kind_at tokens at)
at_token P tokens at t g h = subst (λ o. P (kind_of o)) (sym g) h

is_there : {A : Type 0} (o : Option A) (x : A) → o ≡ Some x → IsSome o
is_there o x e = ap is_some e

is_true : {A : Type 0} (o : Option A) (x : A) (b : Bool) → b ≡ is_some o → o ≡ Some x → b ≡ true
is_true o x b h e = h ∙ ap is_some e

there : (P : TokenKind → Type 0) → (P Kinds.End → ⊥) → (tokens : List Shown) (at : ℕ) (o : Option Shown) → slice_get tokens at ≡ o → P (kind_of o) → (t : Shown) × (slice_get tokens at ≡ Some t) × P t.kind
there P never tokens at (Some t) g h = (t, g, h)
there P never tokens at None g h = absurd (never h)

some_of : {A : Type 0} (o : Option A) → IsSome o → (x : A) × (o ≡ Some x)
some_of (Some x) h = (x, refl)
some_of None h = absurd (true≢false (sym h))

some_by : {A : Type 0} (o : Option A) (b : Bool) → b ≡ is_some o → b ≡ true → (x : A) × (o ≡ Some x)
some_by (Some x) b h e = (x, refl)
some_by None b h e = absurd (true≢false (sym e ∙ h))

steps : Begins step next_step
steps tokens at x end (t, g, d, e) = at_token (λ k. is_step k ≡ true) tokens at t g (is_true (step_kind (span t) t.kind) x (is_step t.kind) (step_table (span t) t.kind) d)

prefixes : Begins prefix_op next_prefix
prefixes tokens at x end (t, g, d, e) = at_token (λ k. is_prefix k ≡ true) tokens at t g (is_true (prefix_kind t.kind) x (is_prefix t.kind) (prefix_table t.kind) d)

ops : (level : Level) → Begins (op level) (next_op level)
ops level tokens at x end (t, g, d, e) = at_token (λ k. IsSome (level_op level k)) tokens at t g (is_there (level_op level t.kind) x d)

assigns : Begins assign_op (next_assign true)
assigns tokens at x end (t, g, d, e) = (at_token (λ k. IsSome (assign_kind k)) tokens at t g (is_there (assign_kind t.kind) x d), refl)

step_there : Meets step next_step
step_there tokens at h =
    let p = there (λ k. is_step k ≡ true) (λ e. true≢false (sym e)) tokens at (slice_get tokens at) refl h in
    let s = some_by (step_kind (span p.0) p.0.kind) (is_step p.0.kind) (step_table (span p.0) p.0.kind) p.2 in
    (s.0, (p.0, p.1, s.1, refl))

prefix_there : Meets prefix_op next_prefix
prefix_there tokens at h =
    let p = there (λ k. is_prefix k ≡ true) (λ e. true≢false (sym e)) tokens at (slice_get tokens at) refl h in
    let s = some_by (prefix_kind p.0.kind) (is_prefix p.0.kind) (prefix_table p.0.kind) p.2 in
    (s.0, (p.0, p.1, s.1, refl))

no_level : (level : Level) → IsSome (level_op level Kinds.End) → ⊥
no_level level h = true≢false (sym h)

op_there : (level : Level) → Meets (op level) (next_op level)
op_there level tokens at h =
    let p = there (λ k. IsSome (level_op level k)) (no_level level) tokens at (slice_get tokens at) refl h in
    let s = some_of (level_op level p.0.kind) p.2 in
    (s.0, (p.0, p.1, s.1, refl))

assign_there : Meets assign_op (next_assign true)
assign_there tokens at h =
    let p = there (λ k. IsSome (assign_kind k)) (λ e. true≢false (sym e)) tokens at (slice_get tokens at) refl h.0 in
    let s = some_of (assign_kind p.0.kind) p.2 in
    (s.0, (p.0, p.1, s.1, refl))

pub token_laws : TokenLaws
token_laws = record { steps = steps; step_there = step_there; prefixes = prefixes; prefix_there = prefix_there; ops = ops; op_there = op_there; assigns = assigns; assign_there = assign_there }

-- ---- operands

-- what is told of the place where a rule begins
here_first : (tokens : List Shown) (P : ℕ → Type 0) (i m at : ℕ) → m ≡ at → P m → P at
here_first tokens P i m at e h = subst P e h

opened : (s : Sign) (room : ℕ) (tokens : List Shown) (at : ℕ) (x m : ℕ) → Reads tokens (open_sign s room) at x m → kind_at tokens at ≡ Kinds.Sign s
opened s zero tokens at x m (i, m1, h, (u, m2, is, never)) = absurd never
opened s (suc room) tokens at x m (u, m1, (t, g, k, e), h) = at_token (λ z. z ≡ Kinds.Sign s) tokens at t g k

or_left : (a b : Bool) → a ≡ true → (a || b) ≡ true
or_left true b e = refl
or_left false b e = absurd (true≢false (sym e))

or_right : (a b : Bool) → b ≡ true → (a || b) ≡ true
or_right true b e = refl
or_right false b e = e

name_word : (s : Span) (k : Keyword) → is_name InCode (Kinds.Keyword k) ≡ true → begins_operand_word k ≡ true
name_word s k e = word_table s k ∙ or_right (is_some (word_expr s k)) (is_new k || is_name InCode (Kinds.Keyword k)) (or_right (is_new k) (is_name InCode (Kinds.Keyword k)) e)

name_begins : (k : TokenKind) → is_name InCode k ≡ true → begins_operand k ≡ true
name_begins Kinds.Name e = refl
name_begins (Kinds.Keyword k) e = name_word (record { from = 0; to = 0 }) k e
name_begins (Kinds.Integer n) e = refl
name_begins (Kinds.Long n) e = refl
name_begins (Kinds.Decimal n) e = refl
name_begins Kinds.Quoted e = refl
name_begins (Kinds.Date d) e = e
name_begins (Kinds.Moment m) e = e
name_begins (Kinds.Sign s) e = e
name_begins Kinds.End e = e

simple_begins : (s : Span) (text : List ℕ) (k : TokenKind) (x : Expr) → simple_kind s text k ≡ Some x → begins_operand k ≡ true
simple_begins s text Kinds.Name x e = refl
simple_begins s text (Kinds.Keyword k) x e = word_table s k ∙ or_left (is_some (word_expr s k)) (is_new k || is_name InCode (Kinds.Keyword k)) (ap is_some e)
simple_begins s text (Kinds.Integer n) x e = refl
simple_begins s text (Kinds.Long n) x e = refl
simple_begins s text (Kinds.Decimal n) x e = refl
simple_begins s text Kinds.Quoted x e = refl
simple_begins s text (Kinds.Date d) x e = absurd (none-some x e)
simple_begins s text (Kinds.Moment m) x e = absurd (none-some x e)
simple_begins s text (Kinds.Sign g) x e = absurd (none-some x e)
simple_begins s text Kinds.End x e = absurd (none-some x e)

-- what stands at a place may begin an operand
operand_at : (tokens : List Shown) (at : ℕ) → begins_operand (kind_at tokens at) ≡ true → next_expr tokens at
operand_at tokens at h = inr (inr (inr h))

primary_begins : (room : ℕ) (e : Rule Expr) (q : Rule QueryTree) (t : Rule TypeTree) (tokens : List Shown) (at : ℕ) (x : Expr) (end : ℕ) → Reads tokens (primary room e q t) at x end → next_expr tokens at
primary_begins room e q t tokens at x end (inl (k, h)) = operand_at tokens at (subst (λ z. begins_operand z ≡ true) (sym k) refl)
primary_begins room e q t tokens at x end (inr (n, inl (k, h))) = inr (inl k)
primary_begins room e q t tokens at x end (inr (n, inr (n2, inl (k, h)))) = inr (inr (inl k))
primary_begins room e q t tokens at x end (inr (n, inr (n2, inr (n3, inl (k, h))))) = operand_at tokens at (name_begins (kind_at tokens at) k)
primary_begins room e q t tokens at x end (inr (n, inr (n2, inr (n3, inr (n4, (u, g, d, w)))))) =
    operand_at tokens at (at_token (λ k. begins_operand k ≡ true) tokens at u g (simple_begins (span u) u.bytes u.kind x d))

unary_with_begins : (room : ℕ) (e : Rule Expr) (q : Rule QueryTree) (u : Rule Part) (tokens : List Shown) (at : ℕ) (x : Part) (end : ℕ) → Reads tokens (unary_with room e q u) at x end → next_expr tokens at
unary_with_begins room e q u tokens at x end (inl (k, h)) = inl k
unary_with_begins room e q u tokens at x end (inr (n, inl (k, h))) = inr (inl k.0)
unary_with_begins room e q u tokens at x end (inr (n, inr (n2, (y, m, (i, m1, w, (z, m2, h, rest)), last)))) =
    here_first tokens (next_expr tokens) i m1 at w.1 (primary_begins room e q (type room) tokens m1 z m2 h)

operands : (room : ℕ) → Begins (unary room) next_expr
unfolding unary
operands zero tokens at x end h = unary_with_begins zero (refuse_here TooDeep) (refuse_here TooDeep) (refuse_here TooDeep) tokens at x end h
operands (suc room) tokens at x end h = unary_with_begins (suc room) (expr room) (deeper_query (suc room)) (unary room) tokens at x end h

-- operands between operators begin with the first one
chained : (u : Rule Part) → Begins u next_expr → Begins (products u) next_expr
chained u f tokens at x end (i, m, w, (y, m1, h, rest)) = here_first tokens (next_expr tokens) i m at w.1 (f tokens m y m1 h)

summed : (u : Rule Part) → Begins u next_expr → Begins (sums u) next_expr
summed u f tokens at x end (i, m, w, (y, m1, h, rest)) = here_first tokens (next_expr tokens) i m at w.1 (chained u f tokens m y m1 h)

ordered : (u : Rule Part) → Begins u next_expr → Begins (orders u) next_expr
ordered u f tokens at x end (i, m, w, (y, m1, h, rest)) = here_first tokens (next_expr tokens) i m at w.1 (summed u f tokens m y m1 h)

equated : (u : Rule Part) → Begins u next_expr → Begins (equalities u) next_expr
equated u f tokens at x end (i, m, w, (y, m1, h, rest)) = here_first tokens (next_expr tokens) i m at w.1 (ordered u f tokens m y m1 h)

joined : (u : Rule Part) → Begins u next_expr → Begins (conjunctions u) next_expr
joined u f tokens at x end (i, m, w, (y, m1, h, rest)) = here_first tokens (next_expr tokens) i m at w.1 (equated u f tokens m y m1 h)

parted : (u : Rule Part) → Begins u next_expr → Begins (disjunctions u) next_expr
parted u f tokens at x end (i, m, w, (y, m1, h, rest)) = here_first tokens (next_expr tokens) i m at w.1 (joined u f tokens m y m1 h)

whole : (room : ℕ) (e : Rule Expr) (u : Rule Part) → Begins u next_expr → Begins (expr_with room e u) next_expr
whole room e u f tokens at x end (i, m, w, (y, m1, h, rest)) = here_first tokens (next_expr tokens) i m at w.1 (parted u f tokens m y m1 h)

pub exprs : (room : ℕ) → Begins (expr room) next_expr
unfolding expr
exprs zero = whole zero (refuse_here TooDeep) (unary_with zero (refuse_here TooDeep) (refuse_here TooDeep) (refuse_here TooDeep)) (unary_with_begins zero (refuse_here TooDeep) (refuse_here TooDeep) (refuse_here TooDeep))
exprs (suc room) = whole (suc room) (expr room) (unary_with (suc room) (expr room) (deeper_query (suc room)) (unary room)) (unary_with_begins (suc room) (expr room) (deeper_query (suc room)) (unary room))

-- ---- types and parts

name_first : (b : Bool) {A : Type 0} (y x : A) → cond b (Some y) None ≡ Some x → b ≡ true
name_first true y x e = refl
name_first false y x e = absurd (none-some x e)

type_with_begins : (room : ℕ) (d : Rule TypeTree) → Begins (type_with room d) (next_name InCode)
type_with_begins room d tokens at x end (i, m, w, (y, m1, (t, g, c, e), rest)) =
    here_first tokens (next_name InCode tokens) i m at w.1 (at_token (λ k. is_name InCode k ≡ true) tokens m t g (name_first (is_name InCode t.kind) (named t) y c))

pub types : (room : ℕ) → Begins (type room) (next_name InCode)
types zero = type_with_begins zero (deeper_type zero)
types (suc room) = type_with_begins (suc room) (type room)

parts : (room : ℕ) → Begins (part room (deeper_expr room)) next_part
parts room tokens at x end (inl (k, h)) = subst (λ z. begins_part z ≡ true) (sym k) refl
parts room tokens at x end (inr (n, (i, m, w, (y, m1, h, rest)))) =
    here_first tokens (next_part tokens) i m at w.1 (subst (λ z. begins_part z ≡ true) (sym (opened OpenBracket room tokens m y m1 h)) refl)

pub begin_laws : BeginLaws
begin_laws = record { types = types; parts = parts; operands = operands; exprs = exprs }
