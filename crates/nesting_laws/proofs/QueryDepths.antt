-- A query that was read nests no deeper than there was room.
use Rattle.std.specs.Prelude.{◌≡◌, ◌≤◌, ℕ, ℤ, zero, suc, List, Bool, true, false, Option, None, Some, option_map, map}
use Rattle.std.proofs.Common.{refl, sym, ap, ◌∙◌}
use Rattle.std.proofs.Math.Nat.{max-le}
use Rattle.apex_text.specs.declared.place.Span.{Span}
use Rattle.apex_lexer.specs.declared.token.Keyword.{Keyword}
use Rattle.apex_lexer.specs.declared.token.Keyword.TheVariants as W
use Rattle.apex_lexer.specs.declared.token.Sign.TheVariants.{OpenParen}
use Rattle.apex_lexer.specs.declared.token.TokenKind.{TokenKind}
use Rattle.apex_lexer.specs.declared.token.TokenKind.TheVariants as K
use Rattle.apex_syntax.specs.Depths.{most, some, opened, bind_depth, value_depth, list_depth, count_depth, cond_depth, sel_depth, select_depth, query_depth}
use Rattle.apex_syntax.specs.declared.expr.Expr.TheOpen.{BindTree-F, CondTree-F, CountTree-F, ListTree-F, SelTree-F, SelectTree-F, ValueTree-F}
use Rattle.apex_syntax.specs.declared.query.BindRange.{BindRange}
use Rattle.apex_syntax.specs.declared.query.BindTree.{BindTree}
use Rattle.apex_syntax.specs.declared.query.BindTree.TheVariants as B
use Rattle.apex_syntax.specs.declared.query.CompareOp.{CompareOp}
use Rattle.apex_syntax.specs.declared.query.CondTree.{CondTree}
use Rattle.apex_syntax.specs.declared.query.CondTree.TheVariants as C
use Rattle.apex_syntax.specs.declared.query.CountTree.{CountTree}
use Rattle.apex_syntax.specs.declared.query.CountTree.TheVariants as N
use Rattle.apex_syntax.specs.declared.query.ListTree.{ListTree}
use Rattle.apex_syntax.specs.declared.query.ListTree.TheVariants as L
use Rattle.apex_syntax.specs.declared.query.NumberTree.{NumberTree}
use Rattle.apex_syntax.specs.declared.query.NumberTree.TheVariants as M
use Rattle.apex_syntax.specs.declared.query.OrderTree.{OrderTree}
use Rattle.apex_syntax.specs.declared.query.PathTree.{PathTree}
use Rattle.apex_syntax.specs.declared.query.QueryTree.{QueryTree}
use Rattle.apex_syntax.specs.declared.query.SelTree.{SelTree}
use Rattle.apex_syntax.specs.declared.query.SelTree.TheVariants as S
use Rattle.apex_syntax.specs.declared.query.SelectTree.{SelectTree}
use Rattle.apex_syntax.specs.declared.query.SelectTree.TheVariants as R
use Rattle.apex_syntax.specs.declared.query.ValueTree.{ValueTree}
use Rattle.apex_syntax.specs.declared.query.ValueTree.TheVariants as V
use Rattle.apex_syntax.specs.declared.word.Word.{Word}
use Rattle.token_grammar.specs.declared.fault.ParseWord.TheVariants.{TooDeep}
use Rattle.token_grammar.specs.Notation.{Rule, span}
use Rattle.token_grammar.specs.Literals.{literal_bytes}
use Rattle.token_grammar.specs.Tokens.{refuse_here}
use Rattle.nesting_laws.proofs.Keeps.{Keeps, gives, taken, first, past, either, refuses, many, maybe, one_within, is_within, no_depth, opens_sign, opens_word, opened_within, refused_here, inside_is}
use Rattle.soql_parse.specs.declared.select.FromPart.{FromPart}
use Rattle.soql_parse.specs.Queries.{range, value, values, list, count, whole_kind, literal_kind, simple, chain, conds_of, one_with, one, path_item, sub_item, sub_items, sub_query, item, selection, source, query}
use Rattle.nesting_laws.proofs.Layers.{bind_made, value_made, list_made, count_made, cond_made, sel_made, select_made, query_made}

-- ---- trees

tokens_flat : (r : BindRange) → bind_depth (B.Tokens r) ≡ 0
tokens_flat r = ap bind_depth (sym (B.rolls-Tokens r)) ∙ bind_made (BindTree-F.Tokens r)

value_bind : (b : BindTree) → value_depth (V.Bind b) ≡ bind_depth b
value_bind b = ap value_depth (sym (V.rolls-Bind b)) ∙ value_made (ValueTree-F.«ValueTree::Bind» b)

number_flat : (s : Span) (negative : Bool) (x : NumberTree) → value_depth (V.Number s negative x) ≡ 0
number_flat s negative x = ap value_depth (sym (V.rolls-Number s negative x)) ∙ value_made (ValueTree-F.Number s negative x)

text_flat : (s : Span) (x : List ℕ) → value_depth (V.Text s x) ≡ 0
text_flat s x = ap value_depth (sym (V.rolls-Text s x)) ∙ value_made (ValueTree-F.Text s x)

date_flat : (s : Span) (x : ℤ) → value_depth (V.Date s x) ≡ 0
date_flat s x = ap value_depth (sym (V.rolls-Date s x)) ∙ value_made (ValueTree-F.Date s x)

moment_flat : (s : Span) (x : ℤ) → value_depth (V.Moment s x) ≡ 0
moment_flat s x = ap value_depth (sym (V.rolls-Moment s x)) ∙ value_made (ValueTree-F.Moment s x)

truth_flat : (s : Span) (x : Bool) → value_depth (V.Bool s x) ≡ 0
truth_flat s x = ap value_depth (sym (V.rolls-Bool s x)) ∙ value_made (ValueTree-F.Bool s x)

null_flat : (s : Span) → value_depth (V.Null s) ≡ 0
null_flat s = ap value_depth (sym (V.rolls-Null s)) ∙ value_made (ValueTree-F.Null s)

list_values : (s : Span) (xs : List ValueTree) → list_depth (L.Values s xs) ≡ opened (most (map value_depth xs))
list_values s xs = ap list_depth (sym (L.rolls-Values s xs)) ∙ list_made (ListTree-F.Values s xs)

list_bind : (b : BindTree) → list_depth (L.Bind b) ≡ bind_depth b
list_bind b = ap list_depth (sym (L.rolls-Bind b)) ∙ list_made (ListTree-F.«ListTree::Bind» b)

count_whole : (s : Span) (n : ℤ) → count_depth (N.Whole s n) ≡ 0
count_whole s n = ap count_depth (sym (N.rolls-Whole s n)) ∙ count_made (CountTree-F.Whole s n)

count_bind : (b : BindTree) → count_depth (N.Bind b) ≡ bind_depth b
count_bind b = ap count_depth (sym (N.rolls-Bind b)) ∙ count_made (CountTree-F.«CountTree::Bind» b)

cond_all : (s : Span) (cs : List CondTree) → cond_depth (C.All s cs) ≡ most (map cond_depth cs)
cond_all s cs = ap cond_depth (sym (C.rolls-All s cs)) ∙ cond_made (CondTree-F.All s cs)

cond_any : (s : Span) (cs : List CondTree) → cond_depth (C.Any s cs) ≡ most (map cond_depth cs)
cond_any s cs = ap cond_depth (sym (C.rolls-Any s cs)) ∙ cond_made (CondTree-F.Any s cs)

cond_not : (s : Span) (c : CondTree) → cond_depth (C.Not s c) ≡ opened (cond_depth c)
cond_not s c = ap cond_depth (sym (C.rolls-Not s c)) ∙ cond_made (CondTree-F.Not s c)

cond_paren : (s : Span) (c : CondTree) → cond_depth (C.Paren s c) ≡ opened (cond_depth c)
cond_paren s c = ap cond_depth (sym (C.rolls-Paren s c)) ∙ cond_made (CondTree-F.«CondTree::Paren» s c)

cond_compare : (s : Span) (p : PathTree) (o : CompareOp) (v : ValueTree) → cond_depth (C.Compare s p o v) ≡ value_depth v
cond_compare s p o v = ap cond_depth (sym (C.rolls-Compare s p o v)) ∙ cond_made (CondTree-F.Compare s p o v)

cond_within : (s : Span) (p : PathTree) (n : Bool) (l : ListTree) → cond_depth (C.Within s p n l) ≡ list_depth l
cond_within s p n l = ap cond_depth (sym (C.rolls-Within s p n l)) ∙ cond_made (CondTree-F.Within s p n l)

path_flat : (p : PathTree) → sel_depth (S.Path p) ≡ 0
path_flat p = ap sel_depth (sym (S.rolls-Path p)) ∙ sel_made (SelTree-F.Path p)

sel_query : (s : Span) (q : QueryTree) → sel_depth (S.Query s q) ≡ opened (query_depth q)
sel_query s q = ap sel_depth (sym (S.rolls-Query s q)) ∙ sel_made (SelTree-F.«SelTree::Query» s q)

select_count : (s : Span) → select_depth (R.Count s) ≡ 1
select_count s = ap select_depth (sym (R.rolls-Count s)) ∙ select_made (SelectTree-F.Count s)

select_items : (xs : List SelTree) → select_depth (R.Items xs) ≡ most (map sel_depth xs)
select_items xs = ap select_depth (sym (R.rolls-Items xs)) ∙ select_made (SelectTree-F.«SelectTree::Items» xs)

-- what a whole query is made of
parts_within : (n : ℕ) (s : Span) (sel : SelectTree) (object : Word) (c : Option CondTree) (k : Option OrderTree) (l f : Option CountTree) (u : Bool)
    → select_depth sel ≤ n → some (option_map cond_depth c) ≤ n → some (option_map count_depth l) ≤ n → some (option_map count_depth f) ≤ n
    → query_depth (record { span = s; select = sel; object = object; «cond» = c; order = k; limit = l; offset = f; locked = u }) ≤ n
parts_within n s sel object None k None None u h i j m = is_within (query_made (record { span = s; select = sel; object = object; «cond» = None; order = k; limit = None; offset = None; locked = u })) (max-le h (max-le i (max-le j m)))
parts_within n s sel object None k None (Some f) u h i j m = is_within (query_made (record { span = s; select = sel; object = object; «cond» = None; order = k; limit = None; offset = Some f; locked = u })) (max-le h (max-le i (max-le j m)))
parts_within n s sel object None k (Some l) None u h i j m = is_within (query_made (record { span = s; select = sel; object = object; «cond» = None; order = k; limit = Some l; offset = None; locked = u })) (max-le h (max-le i (max-le j m)))
parts_within n s sel object None k (Some l) (Some f) u h i j m = is_within (query_made (record { span = s; select = sel; object = object; «cond» = None; order = k; limit = Some l; offset = Some f; locked = u })) (max-le h (max-le i (max-le j m)))
parts_within n s sel object (Some c) k None None u h i j m = is_within (query_made (record { span = s; select = sel; object = object; «cond» = Some c; order = k; limit = None; offset = None; locked = u })) (max-le h (max-le i (max-le j m)))
parts_within n s sel object (Some c) k None (Some f) u h i j m = is_within (query_made (record { span = s; select = sel; object = object; «cond» = Some c; order = k; limit = None; offset = Some f; locked = u })) (max-le h (max-le i (max-le j m)))
parts_within n s sel object (Some c) k (Some l) None u h i j m = is_within (query_made (record { span = s; select = sel; object = object; «cond» = Some c; order = k; limit = Some l; offset = None; locked = u })) (max-le h (max-le i (max-le j m)))
parts_within n s sel object (Some c) k (Some l) (Some f) u h i j m = is_within (query_made (record { span = s; select = sel; object = object; «cond» = Some c; order = k; limit = Some l; offset = Some f; locked = u })) (max-le h (max-le i (max-le j m)))

-- ---- values

literal_flat : (s : Span) (text : List ℕ) (k : TokenKind) → some (option_map value_depth (literal_kind s text k)) ≡ 0
literal_flat s text K.Name = refl
literal_flat s text (K.Integer n) = number_flat s false (M.Integer n)
literal_flat s text (K.Long n) = number_flat s false (M.Long n)
literal_flat s text (K.Decimal n) = number_flat s false (M.Decimal n)
literal_flat s text K.Quoted = text_flat s (literal_bytes text)
literal_flat s text (K.Date d) = date_flat s d
literal_flat s text (K.Moment m) = moment_flat s m
literal_flat s text (K.Sign x) = refl
literal_flat s text K.End = refl
literal_flat s text (K.Keyword W.Abstract) = refl
literal_flat s text (K.Keyword W.Break) = refl
literal_flat s text (K.Keyword W.Catch) = refl
literal_flat s text (K.Keyword W.Class) = refl
literal_flat s text (K.Keyword W.Continue) = refl
literal_flat s text (K.Keyword W.Delete) = refl
literal_flat s text (K.Keyword W.Do) = refl
literal_flat s text (K.Keyword W.Else) = refl
literal_flat s text (K.Keyword W.Extends) = refl
literal_flat s text (K.Keyword W.False) = truth_flat s false
literal_flat s text (K.Keyword W.Final) = refl
literal_flat s text (K.Keyword W.Finally) = refl
literal_flat s text (K.Keyword W.For) = refl
literal_flat s text (K.Keyword W.Global) = refl
literal_flat s text (K.Keyword W.If) = refl
literal_flat s text (K.Keyword W.Implements) = refl
literal_flat s text (K.Keyword W.Insert) = refl
literal_flat s text (K.Keyword W.Interface) = refl
literal_flat s text (K.Keyword W.New) = refl
literal_flat s text (K.Keyword W.Null) = null_flat s
literal_flat s text (K.Keyword W.Override) = refl
literal_flat s text (K.Keyword W.Private) = refl
literal_flat s text (K.Keyword W.Protected) = refl
literal_flat s text (K.Keyword W.Public) = refl
literal_flat s text (K.Keyword W.Return) = refl
literal_flat s text (K.Keyword W.Static) = refl
literal_flat s text (K.Keyword W.Super) = refl
literal_flat s text (K.Keyword W.This) = refl
literal_flat s text (K.Keyword W.Throw) = refl
literal_flat s text (K.Keyword W.True) = truth_flat s true
literal_flat s text (K.Keyword W.Try) = refl
literal_flat s text (K.Keyword W.Update) = refl
literal_flat s text (K.Keyword W.Upsert) = refl
literal_flat s text (K.Keyword W.Virtual) = refl
literal_flat s text (K.Keyword W.Void) = refl
literal_flat s text (K.Keyword W.While) = refl
literal_flat s text (K.Keyword W.Select) = refl
literal_flat s text (K.Keyword W.From) = refl
literal_flat s text (K.Keyword W.Where) = refl
literal_flat s text (K.Keyword W.And) = refl
literal_flat s text (K.Keyword W.Or) = refl
literal_flat s text (K.Keyword W.Not) = refl
literal_flat s text (K.Keyword W.In) = refl
literal_flat s text (K.Keyword W.Like) = refl
literal_flat s text (K.Keyword W.Order) = refl
literal_flat s text (K.Keyword W.By) = refl
literal_flat s text (K.Keyword W.Group) = refl
literal_flat s text (K.Keyword W.Limit) = refl
literal_flat s text (K.Keyword W.Offset) = refl
literal_flat s text (K.Keyword W.Asc) = refl
literal_flat s text (K.Keyword W.Desc) = refl
literal_flat s text (K.Keyword W.Nulls) = refl
literal_flat s text (K.Keyword W.After) = refl
literal_flat s text (K.Keyword W.Before) = refl
literal_flat s text (K.Keyword W.Count) = refl
literal_flat s text (K.Keyword W.First) = refl
literal_flat s text (K.Keyword W.Get) = refl
literal_flat s text (K.Keyword W.Inherited) = refl
literal_flat s text (K.Keyword W.Last) = refl
literal_flat s text (K.Keyword W.On) = refl
literal_flat s text (K.Keyword W.Set) = refl
literal_flat s text (K.Keyword W.Sharing) = refl
literal_flat s text (K.Keyword W.Trigger) = refl
literal_flat s text (K.Keyword W.With) = refl
literal_flat s text (K.Keyword W.Without) = refl

whole_flat : (s : Span) (k : TokenKind) → some (option_map count_depth (whole_kind s k)) ≡ 0
whole_flat s (K.Integer n) = count_whole s n
whole_flat s K.Name = refl
whole_flat s (K.Keyword w) = refl
whole_flat s (K.Long n) = refl
whole_flat s (K.Decimal n) = refl
whole_flat s K.Quoted = refl
whole_flat s (K.Date d) = refl
whole_flat s (K.Moment m) = refl
whole_flat s (K.Sign x) = refl
whole_flat s K.End = refl

-- what reads a bind opens no more forms in it than there is room
abbrev pub BindsWithin : (ℕ → Rule BindTree) → Type 0
BindsWithin bind = (room : ℕ) → Keeps (bind room) (λ b. bind_depth b ≤ room)

pub range_within : BindsWithin range
range_within room = past (λ i. past (λ u. past (λ x. past (λ v. past (λ j. past (λ s. gives (no_depth (tokens_flat (record { span = s; from = i; to = j; room = room })))))))))

-- conditions with one link between them
chain_within : (link : Keyword) (c : CondTree) (one : Rule CondTree) (n : ℕ) → cond_depth c ≤ n → Keeps one (λ x. cond_depth x ≤ n) → Keeps (chain link c one) (λ cs. most (map cond_depth cs) ≤ n)
chain_within link c one n h k = first (many cond_depth (past (λ u. k))) (λ cs j. gives (max-le h j))

conds_within : (one : Rule CondTree) (n : ℕ) → Keeps one (λ c. cond_depth c ≤ n) → Keeps (conds_of one) (λ c. cond_depth c ≤ n)
conds_within one n k =
    past (λ i. first k (λ c h.
    either (first (chain_within W.And c one n h k) (λ cs j. either refused_here (past (λ s. gives (is_within (cond_all s cs) j)))))
    (either (first (chain_within W.Or c one n h k) (λ cs j. either refused_here (past (λ s. gives (is_within (cond_any s cs) j))))) (gives h))))

path_within : (room : ℕ) → Keeps path_item (λ x. sel_depth x ≤ room)
path_within room = past (λ p. gives (no_depth (path_flat p)))

sub_item_within : (room n : ℕ) → Keeps (sub_item room) (λ x. sel_depth x ≤ n)
sub_item_within room n = either (past (λ i. past (λ inside. refuses))) (path_within n)

sub_items_within : (room : ℕ) → Keeps (sub_items room) (λ x. select_depth x ≤ room)
sub_items_within room =
    first (sub_item_within room room) (λ x h. first (first (many sel_depth (past (λ u. sub_item_within room room))) (λ xs j. gives (max-le h j))) (λ xs j. gives (is_within (select_items xs) j)))

abbrev FromWithin : ℕ → FromPart → Type 0
FromWithin room f = (some (option_map cond_depth f.«cond») ≤ room) × (some (option_map count_depth f.limit) ≤ room) × (some (option_map count_depth f.offset) ≤ room)

module _ (bind : ℕ → Rule BindTree) (k : BindsWithin bind) where
  value_within : (room : ℕ) → Keeps (value bind room) (λ v. value_depth v ≤ room)
  value_within room =
      either (first (k room) (λ b h. gives (is_within (value_bind b) h)))
      (either (past (λ i. past (λ u. past (λ x. past (λ s. gives (no_depth (number_flat s true x)))))))
      (taken value_depth (λ t. literal_flat (span t) t.bytes t.kind)))

  values_within : (room : ℕ) → Keeps (values bind room) (λ l. list_depth l ≤ room)
  values_within room =
      past (λ i. first (opens_sign OpenParen room) (λ inside e. first (value_within inside) (λ x h.
      first (first (many value_depth (past (λ u. value_within inside))) (λ xs j. gives (max-le h j))) (λ xs j.
      past (λ u. past (λ s. gives (is_within (list_values s xs) (opened_within j e))))))))

  list_within : (room : ℕ) → Keeps (list bind room) (λ l. list_depth l ≤ room)
  list_within room = either (first (k room) (λ b h. gives (is_within (list_bind b) h))) (values_within room)

  count_within : (room : ℕ) → Keeps (count bind room) (λ n. count_depth n ≤ room)
  count_within room = either (first (k room) (λ b h. gives (is_within (count_bind b) h))) (taken count_depth (λ t. whole_flat (span t) t.kind))

  -- ---- conditions

  simple_within : (room : ℕ) → Keeps (simple bind room) (λ c. cond_depth c ≤ room)
  simple_within room =
      past (λ i. past (λ p.
      either (past (λ u. past (λ v. first (list_within room) (λ l h. past (λ s. gives (is_within (cond_within s p true l) h))))))
      (either (past (λ u. first (list_within room) (λ l h. past (λ s. gives (is_within (cond_within s p false l) h)))))
      (past (λ o. first (value_within room) (λ v h. past (λ s. gives (is_within (cond_compare s p o v) h))))))))

  one_with_within : (room : ℕ) (deeper : Rule CondTree) → ((inside : ℕ) → room ≡ suc inside → Keeps deeper (λ c. cond_depth c ≤ inside)) → Keeps (one_with bind room deeper) (λ c. cond_depth c ≤ room)
  one_with_within room deeper j =
      either (past (λ i. first (opens_word W.Not room) (λ inside e. first (j inside e) (λ c h. past (λ s. gives (is_within (cond_not s c) (opened_within h e)))))))
      (either (past (λ i. first (opens_sign OpenParen room) (λ inside e. first (conds_within deeper inside (j inside e)) (λ c h. past (λ u. past (λ s. gives (is_within (cond_paren s c) (opened_within h e))))))))
      (simple_within room))

  one_cond_within : (room : ℕ) → Keeps (one bind room) (λ c. cond_depth c ≤ room)
  one_cond_within zero = one_with_within zero (refuse_here TooDeep) (λ inside e. refused_here)
  one_cond_within (suc room) = one_with_within (suc room) (one bind room) (λ inside e. inside_is cond_depth e (one_cond_within room))

  -- ---- queries

  source_within : (room : ℕ) → Keeps (source bind room) (FromWithin room)
  source_within room =
      past (λ o. first (maybe cond_depth (past (λ u. conds_within (one bind room) room (one_cond_within room)))) (λ c h. past (λ x.
      first (maybe count_depth (past (λ u. count_within room))) (λ l i. first (maybe count_depth (past (λ u. count_within room))) (λ f j. gives (h, i, j))))))

  sub_query_within : (room : ℕ) → Keeps (sub_query bind room) (λ q. query_depth q ≤ room)
  sub_query_within room =
      past (λ i. past (λ u. first (sub_items_within room) (λ sel h. past (λ v. first (source_within room) (λ f j.
      past (λ s. gives (parts_within room s sel f.object f.«cond» f.order f.limit f.offset false h j.0 j.1 j.2)))))))

  item_within : (room : ℕ) → Keeps (item bind room) (λ x. sel_depth x ≤ room)
  item_within room =
      either (past (λ i. first (opens_sign OpenParen room) (λ inside e. first (sub_query_within inside) (λ q h. past (λ u. past (λ s. gives (is_within (sel_query s q) (opened_within h e))))))))
      (path_within room)

  selection_within : (room : ℕ) → Keeps (selection bind room) (λ x. select_depth x ≤ room)
  selection_within room =
      either (past (λ i. past (λ u. first (opens_sign OpenParen room) (λ inside e. past (λ v. past (λ s. gives (is_within (select_count s) (one_within e))))))))
      (first (item_within room) (λ x h. first (first (many sel_depth (past (λ u. item_within room))) (λ xs j. gives (max-le h j))) (λ xs j. gives (is_within (select_items xs) j))))

  pub query_within : (room : ℕ) → Keeps (query bind room) (λ q. query_depth q ≤ room)
  query_within room =
      past (λ i. past (λ u. first (selection_within room) (λ sel h. past (λ v. first (source_within room) (λ f j.
      past (λ z. past (λ s. gives (parts_within room s sel f.object f.«cond» f.order f.limit f.offset z h j.0 j.1 j.2))))))))
