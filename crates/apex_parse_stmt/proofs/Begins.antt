-- With what a reading begins.
use Rattle.std.specs.Prelude.{◌≡◌, ◌⊎◌, ℕ, zero, suc, ◌||◌, Bool, true, false, cond, List, [], ◌∷◌, Option, None, Some}
use Rattle.std.proofs.Common.{inl, inr, ⊎_elim, refl, sym, ap, subst, ◌∙◌}
use Rattle.std.proofs.lemmas.Option.{none-some}
use Rattle.apex_text.specs.declared.place.Span.{Span}
use Rattle.apex_lexer.specs.declared.token.Keyword.{Keyword}
use Rattle.apex_lexer.specs.declared.token.Keyword.TheVariants as W
use Rattle.apex_lexer.specs.declared.token.Sign.{Sign}
use Rattle.apex_lexer.specs.declared.token.Sign.TheVariants as G
use Rattle.apex_lexer.specs.declared.token.TokenKind.{TokenKind}
use Rattle.apex_lexer.specs.declared.token.TokenKind.TheVariants as K
use Rattle.apex_lexer.specs.Reading.{Shown}
use Rattle.apex_syntax.specs.declared.expr.Expr.{Expr}
use Rattle.apex_syntax.specs.declared.expr.TypeTree.{TypeTree}
use Rattle.apex_syntax.specs.declared.query.QueryTree.{QueryTree}
use Rattle.apex_syntax.specs.declared.stmt.Stmt.{Stmt}
use Rattle.apex_syntax.specs.declared.word.Word.{Word}
use Rattle.token_grammar.specs.declared.fault.ParseWord.TheVariants.{TooDeep}
use Rattle.token_grammar.specs.declared.read.Names.TheVariants.{InCode}
use Rattle.token_grammar.specs.Notation.{Rule, Give, Refuse, Here, Since, Is, Take, Then, Choose, Many, Each, Reads, span, kind_of, kind_at}
use Rattle.token_grammar.specs.Tokens.{is_name, name_of, named, open_sign, refuse_here}
use Rattle.apex_parse_leaf.specs.Leaves.{word_expr, simple_kind, is_prefix}
use Rattle.apex_parse_leaf.specs.Types.{type, type_with}
use Rattle.apex_parse_expr.specs.declared.part.Part.{Part}
use Rattle.apex_parse_expr.specs.Exprs.{expr, expr_with, unary, unary_with, primary, deeper_query}
use Rattle.apex_parse_stmt.specs.Stmts.{expr_word, expr_token, begins_expr, begins_stmt, stmt_sign, is_nested, is_jump, is_dml, stmt, stmt_with, other, block}

-- it reads nothing, or what it reads begins with a token of a class
abbrev pub Leads : (TokenKind → Bool) → {A : Type 0} → Rule A → Type 0
Leads P (Give x) = Unit {0}
Leads P Here = Unit {0}
Leads P (Since from) = Unit {0}
Leads P (Many test item) = (tokens : List Shown) (at : ℕ) → test tokens at → P (kind_at tokens at) ≡ true
Leads P _ = ⊥

-- what it reads begins with a token of a class
abbrev pub Begins : (TokenKind → Bool) → {A : Type 0} → Rule A → Type 0
Begins P (Give x) = ⊥
Begins P (Refuse word place) = Unit {0}
Begins P Here = ⊥
Begins P (Since from) = ⊥
Begins P (Is kind) = P kind ≡ true
Begins P (Take {A} class) = (t : Shown) (x : A) → class t ≡ Some x → P t.kind ≡ true
Begins P (Then {A} {B} a f) = Begins P a ⊎ (Leads P a × ((x : A) → Begins P (f x)))
Begins P (Choose test a b) = (Begins P a ⊎ ((tokens : List Shown) (at : ℕ) → test tokens at → P (kind_at tokens at) ≡ true)) × Begins P b
Begins P (Many test item) = ⊥

each_led : (P : TokenKind → Bool) (tokens : List Shown) {A : Type 0} (begins : ℕ → Type 0) (reads : ℕ → A → ℕ → Type 0) → ((at : ℕ) → begins at → P (kind_at tokens at) ≡ true)
    → (at : ℕ) (xs : List A) (m : ℕ) → Each begins reads at xs m → (m ≡ at) ⊎ (P (kind_at tokens at) ≡ true)
each_led P tokens begins reads f at [] m h = inl h
each_led P tokens begins reads f at (x ∷ xs) m (b, rest) = inr (f at b)

led : (P : TokenKind → Bool) (tokens : List Shown) {A : Type 0} (r : Rule A) (at : ℕ) (x : A) (m : ℕ) → Leads P r → Reads tokens r at x m → (m ≡ at) ⊎ (P (kind_at tokens at) ≡ true)
led P tokens (Give z) at x m s h = inl h.1
led P tokens (Refuse w p) at x m s h = absurd h
led P tokens Here at x m s h = inl h.1
led P tokens (Since from) at x m s h = inl h.1
led P tokens (Is kind) at x m s h = absurd s
led P tokens (Take class) at x m s h = absurd s
led P tokens (Then a f) at x m s h = absurd s
led P tokens (Choose test a b) at x m s h = absurd s
led P tokens (Many test item) at x m s h = each_led P tokens (test tokens) (Reads tokens item) (s tokens) at x m h.0

pub begun : (P : TokenKind → Bool) (tokens : List Shown) {A : Type 0} (r : Rule A) (at : ℕ) (x : A) (m : ℕ) → Begins P r → Reads tokens r at x m → P (kind_at tokens at) ≡ true
begun P tokens (Give z) at x m v h = absurd v
begun P tokens (Refuse w p) at x m v h = absurd h
begun P tokens Here at x m v h = absurd v
begun P tokens (Since from) at x m v h = absurd v
begun P tokens (Is kind) at x m v (t, g, d, e) = ap P (ap kind_of g ∙ d) ∙ v
begun P tokens (Take class) at x m v (t, g, d, e) = ap (λ o. P (kind_of o)) g ∙ v t x d
begun P tokens (Then a f) at x m (inl v) (u, p, h, k) = begun P tokens a at u p v h
begun P tokens (Then a f) at x m (inr v) (u, p, h, k) =
    ⊎_elim (λ e. subst (λ q. P (kind_at tokens q) ≡ true) e (begun P tokens (f u) p x m (v.1 u) k)) (λ b. b) (led P tokens a at u p v.0 h)
begun P tokens (Choose test a b) at x m v (inl (t, h)) = ⊎_elim (λ w. begun P tokens a at x m w h) (λ w. w tokens at t) v.0
begun P tokens (Choose test a b) at x m v (inr (t, h)) = begun P tokens b at x m v.1 h
begun P tokens (Many test item) at x m v h = absurd v

-- ---- a wider class

module _ (P Q : TokenKind → Bool) (wide : (k : TokenKind) → P k ≡ true → Q k ≡ true) where
  wider_lead : {A : Type 0} (r : Rule A) → Leads P r → Leads Q r
  wider_lead (Give x) v = tt
  wider_lead (Refuse w p) v = absurd v
  wider_lead Here v = tt
  wider_lead (Since from) v = tt
  wider_lead (Is kind) v = absurd v
  wider_lead (Take class) v = absurd v
  wider_lead (Then a f) v = absurd v
  wider_lead (Choose test a b) v = absurd v
  wider_lead (Many test item) v = λ tokens at t. wide (kind_at tokens at) (v tokens at t)

  pub wider : {A : Type 0} (r : Rule A) → Begins P r → Begins Q r
  wider (Give x) v = absurd v
  wider (Refuse w p) v = tt
  wider Here v = absurd v
  wider (Since from) v = absurd v
  wider (Is kind) v = wide kind v
  wider (Take class) v = λ t x e. wide t.kind (v t x e)
  wider (Then a f) (inl v) = inl (wider a v)
  wider (Then a f) (inr v) = inr (wider_lead a v.0, λ x. wider (f x) (v.1 x))
  wider (Choose test a b) (inl v, w) = (inl (wider a v), wider b w)
  wider (Choose test a b) (inr v, w) = (inr (λ tokens at t. wide (kind_at tokens at) (v tokens at t)), wider b w)
  wider (Many test item) v = absurd v

-- ---- classes of tokens

pub or_first : (a b : Bool) → a ≡ true → (a || b) ≡ true
or_first a b e = ap (λ x. x || b) e

pub or_second : (a b : Bool) → b ≡ true → (a || b) ≡ true
or_second true b e = refl
or_second false b e = e

-- the token that a test names is of the class
pub by_kind : (P : TokenKind → Bool) (kind : TokenKind) → P kind ≡ true → (tokens : List Shown) (at : ℕ) → kind_at tokens at ≡ kind → P (kind_at tokens at) ≡ true
by_kind P kind is tokens at e = ap P e ∙ is

cond_some : {A : Type 0} (b : Bool) (y x : A) → cond b (Some y) None ≡ Some x → b ≡ true
cond_some true y x e = refl
cond_some false y x e = absurd (none-some x e)

pub named_begins : (P : TokenKind → Bool) → ((k : TokenKind) → is_name InCode k ≡ true → P k ≡ true) → (t : Shown) (x : Word) → name_of InCode t ≡ Some x → P t.kind ≡ true
named_begins P wide t x e = wide t.kind (cond_some (is_name InCode t.kind) (named t) x e)

pub open_begins : (P : TokenKind → Bool) (s : Sign) → P (K.Sign s) ≡ true → (room : ℕ) → Begins P (open_sign s room)
open_begins P s is zero = inr (tt, λ i. inl is)
open_begins P s is (suc room) = inl is

-- ---- expressions and types

name_is_expr : (k : TokenKind) → is_name InCode k ≡ true → begins_expr k ≡ true
name_is_expr k e = or_first (is_name InCode k) (is_prefix k || expr_token k) e

prefix_is_expr : (k : TokenKind) → is_prefix k ≡ true → begins_expr k ≡ true
prefix_is_expr k e = or_second (is_name InCode k) (is_prefix k || expr_token k) (or_first (is_prefix k) (expr_token k) e)

token_is_expr : (k : TokenKind) → expr_token k ≡ true → begins_expr k ≡ true
token_is_expr k e = or_second (is_name InCode k) (is_prefix k || expr_token k) (or_second (is_prefix k) (expr_token k) e)

-- a word that is an expression
word_begins : (s : Span) (k : Keyword) (x : Expr) → word_expr s k ≡ Some x → expr_word k ≡ true
word_begins s W.Abstract x e = absurd (none-some x e)
word_begins s W.Break x e = absurd (none-some x e)
word_begins s W.Catch x e = absurd (none-some x e)
word_begins s W.Class x e = absurd (none-some x e)
word_begins s W.Continue x e = absurd (none-some x e)
word_begins s W.Delete x e = absurd (none-some x e)
word_begins s W.Do x e = absurd (none-some x e)
word_begins s W.Else x e = absurd (none-some x e)
word_begins s W.Extends x e = absurd (none-some x e)
word_begins s W.False x e = refl
word_begins s W.Final x e = absurd (none-some x e)
word_begins s W.Finally x e = absurd (none-some x e)
word_begins s W.For x e = absurd (none-some x e)
word_begins s W.Global x e = absurd (none-some x e)
word_begins s W.If x e = absurd (none-some x e)
word_begins s W.Implements x e = absurd (none-some x e)
word_begins s W.Insert x e = absurd (none-some x e)
word_begins s W.Interface x e = absurd (none-some x e)
word_begins s W.New x e = absurd (none-some x e)
word_begins s W.Null x e = refl
word_begins s W.Override x e = absurd (none-some x e)
word_begins s W.Private x e = absurd (none-some x e)
word_begins s W.Protected x e = absurd (none-some x e)
word_begins s W.Public x e = absurd (none-some x e)
word_begins s W.Return x e = absurd (none-some x e)
word_begins s W.Static x e = absurd (none-some x e)
word_begins s W.Super x e = refl
word_begins s W.This x e = refl
word_begins s W.Throw x e = absurd (none-some x e)
word_begins s W.True x e = refl
word_begins s W.Try x e = absurd (none-some x e)
word_begins s W.Update x e = absurd (none-some x e)
word_begins s W.Upsert x e = absurd (none-some x e)
word_begins s W.Virtual x e = absurd (none-some x e)
word_begins s W.Void x e = absurd (none-some x e)
word_begins s W.While x e = absurd (none-some x e)
word_begins s W.Select x e = absurd (none-some x e)
word_begins s W.From x e = absurd (none-some x e)
word_begins s W.Where x e = absurd (none-some x e)
word_begins s W.And x e = absurd (none-some x e)
word_begins s W.Or x e = absurd (none-some x e)
word_begins s W.Not x e = absurd (none-some x e)
word_begins s W.In x e = absurd (none-some x e)
word_begins s W.Like x e = absurd (none-some x e)
word_begins s W.Order x e = absurd (none-some x e)
word_begins s W.By x e = absurd (none-some x e)
word_begins s W.Group x e = absurd (none-some x e)
word_begins s W.Limit x e = absurd (none-some x e)
word_begins s W.Offset x e = absurd (none-some x e)
word_begins s W.Asc x e = absurd (none-some x e)
word_begins s W.Desc x e = absurd (none-some x e)
word_begins s W.Nulls x e = absurd (none-some x e)
word_begins s W.After x e = absurd (none-some x e)
word_begins s W.Before x e = absurd (none-some x e)
word_begins s W.Count x e = absurd (none-some x e)
word_begins s W.First x e = absurd (none-some x e)
word_begins s W.Get x e = absurd (none-some x e)
word_begins s W.Inherited x e = absurd (none-some x e)
word_begins s W.Last x e = absurd (none-some x e)
word_begins s W.On x e = absurd (none-some x e)
word_begins s W.Set x e = absurd (none-some x e)
word_begins s W.Sharing x e = absurd (none-some x e)
word_begins s W.Trigger x e = absurd (none-some x e)
word_begins s W.With x e = absurd (none-some x e)
word_begins s W.Without x e = absurd (none-some x e)

simple_begins : (s : Span) (text : List ℕ) (k : TokenKind) (x : Expr) → simple_kind s text k ≡ Some x → expr_token k ≡ true
simple_begins s text K.Name x e = absurd (none-some x e)
simple_begins s text (K.Keyword k) x e = word_begins s k x e
simple_begins s text (K.Integer n) x e = refl
simple_begins s text (K.Long n) x e = refl
simple_begins s text (K.Decimal n) x e = refl
simple_begins s text K.Quoted x e = refl
simple_begins s text (K.Date n) x e = absurd (none-some x e)
simple_begins s text (K.Moment n) x e = absurd (none-some x e)
simple_begins s text (K.Sign n) x e = absurd (none-some x e)
simple_begins s text K.End x e = absurd (none-some x e)

primary_begins : (room : ℕ) (e : Rule Expr) (q : Rule QueryTree) (t : Rule TypeTree) → Begins begins_expr (primary room e q t)
primary_begins room e q t = (
  inr (by_kind begins_expr (K.Keyword W.New) refl),
  (
    inr (by_kind begins_expr (K.Sign G.OpenParen) refl),
    (inr (by_kind begins_expr (K.Sign G.OpenBracket) refl), (inr (λ tokens at h. name_is_expr (kind_at tokens at) h), λ t x h. token_is_expr t.kind (simple_begins (span t) t.bytes t.kind x h))),
  ),
)

unary_with_begins : (room : ℕ) (e : Rule Expr) (q : Rule QueryTree) (u : Rule Part) → Begins begins_expr (unary_with room e q u)
unary_with_begins room e q u = (
  inr (λ tokens at h. prefix_is_expr (kind_at tokens at) h),
  (inl (inr (tt, λ i. inl (open_begins begins_expr G.OpenParen refl room))), inl (inr (tt, λ i. inl (primary_begins room e q (type room))))),
)

expr_with_begins : (room : ℕ) (e : Rule Expr) (u : Rule Part) → Begins begins_expr u → Begins begins_expr (expr_with room e u)
expr_with_begins room e u b =
    inr (tt, λ i. inl (inr (tt, λ j. inl (inr (tt, λ k. inl (inr (tt, λ l. inl (inr (tt, λ n. inl (inr (tt, λ o. inl (inr (tt, λ p. inl b)))))))))))))

pub expr_begins : (room : ℕ) → Begins begins_expr (expr room)
unfolding expr
expr_begins zero = expr_with_begins zero (refuse_here TooDeep) (unary_with zero (refuse_here TooDeep) (refuse_here TooDeep) (refuse_here TooDeep)) (unary_with_begins zero (refuse_here TooDeep) (refuse_here TooDeep) (refuse_here TooDeep))
expr_begins (suc room) = expr_with_begins (suc room) (expr room) (unary_with (suc room) (expr room) (deeper_query (suc room)) (unary room)) (unary_with_begins (suc room) (expr room) (deeper_query (suc room)) (unary room))

pub type_begins : (P : TokenKind → Bool) → ((k : TokenKind) → is_name InCode k ≡ true → P k ≡ true) → (room : ℕ) → Begins P (type room)
type_begins P wide zero = inr (tt, λ i. inl (named_begins P wide))
type_begins P wide (suc room) = inr (tt, λ i. inl (named_begins P wide))

-- ---- statements

nested_is : (k : TokenKind) → is_nested k ≡ true → begins_stmt k ≡ true
nested_is k e = or_second (stmt_sign k) _ (or_first (is_nested k) _ e)

jump_is : (k : TokenKind) → is_jump k ≡ true → begins_stmt k ≡ true
jump_is k e = or_second (stmt_sign k) _ (or_second (is_nested k) _ (or_first (is_jump k) _ e))

dml_is : (k : TokenKind) → is_dml k ≡ true → begins_stmt k ≡ true
dml_is k e = or_second (stmt_sign k) _ (or_second (is_nested k) _ (or_second (is_jump k) _ (or_first (is_dml k) _ e)))

expr_is : (k : TokenKind) → begins_expr k ≡ true → begins_stmt k ≡ true
expr_is k e = or_second (stmt_sign k) _ (or_second (is_nested k) _ (or_second (is_jump k) _ (or_second (is_dml k) (begins_expr k) e)))

block_begins : (P : TokenKind → Bool) → P (K.Sign G.OpenBrace) ≡ true → (room : ℕ) (s : Rule Stmt) → Begins P (block room s)
block_begins P is room s = inr (tt, λ i. inl (open_begins P G.OpenBrace is room))

other_begins : (room : ℕ) → Begins begins_stmt (other room)
other_begins room = (
  inr (λ tokens at h. by_kind begins_stmt (K.Keyword W.This) refl tokens at h.0),
  (
    inr (λ tokens at h. by_kind begins_stmt (K.Keyword W.Super) refl tokens at h.0),
    (
      inl (inr (tt, λ i. inl (type_begins begins_stmt (λ k e. expr_is k (name_is_expr k e)) room))),
      inr (tt, λ i. inl (wider begins_expr begins_stmt expr_is (expr room) (expr_begins room))),
    ),
  ),
)

with_begins : (room : ℕ) (s : Rule Stmt) → Begins begins_stmt (stmt_with room s)
with_begins room s = (
  inr (by_kind begins_stmt (K.Sign G.OpenBrace) refl),
  (
    inr (by_kind begins_stmt (K.Sign G.Semicolon) refl),
    (
      inr (λ tokens at h. nested_is (kind_at tokens at) h),
      (inr (λ tokens at h. jump_is (kind_at tokens at) h), (inr (λ tokens at h. dml_is (kind_at tokens at) h), other_begins room)),
    ),
  ),
)

pub stmt_begins : (room : ℕ) → Begins begins_stmt (stmt room)
unfolding stmt
stmt_begins zero = with_begins zero (refuse_here TooDeep)
stmt_begins (suc room) = with_begins (suc room) (stmt room)
