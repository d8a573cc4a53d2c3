-- Types of any depth: what they are made of.
use Rattle.std.specs.Prelude.{◌≡◌, ◌+◌, ◌⊎◌, ℕ, zero, suc, List, [], ◌∷◌, Option, Some, None, slice_get}
use Rattle.std.proofs.Common.{arith, false, refl, sym, subst, ap, ◌∙◌, inl, inr}
use Rattle.apex_lexer.specs.Reading.{Shown}
use Rattle.apex_lexer.specs.declared.token.Sign.{Sign}
use Rattle.apex_lexer.specs.declared.token.Sign.TheVariants.{Comma, Less, More, OpenBracket}
use Rattle.apex_lexer.specs.declared.token.TokenKind.TheVariants.{Sign as IsSign}
use Rattle.apex_syntax.specs.declared.expr.TypeTree.{TypeTree}
use Rattle.apex_syntax.specs.declared.expr.TypeTree.TheViews.{roll-TypeTree}
use Rattle.token_grammar.specs.declared.read.Names.TheVariants.{InCode}
use Rattle.token_grammar.specs.Notation.{Rule, Each, Reads, kind_at, kind_of, span_of}
use Rattle.token_grammar.specs.Tokens.{sign, name, next_sign, open_sign}
use Rattle.token_grammar.proofs.Laws.{reads_one}
use Rattle.apex_parse_leaf.specs.Types.{type, type_with, deeper_type, type_args, args_part, second_arg, pair, arrays, member, IsType}
use Rattle.apex_parse_leaf.specs.Ends.{IsHead, ArePairs, IsShut, IsSecond, IsClose}

module _ (tokens : List Shown) where
  -- ---- pairs, with room for one

  pair_to : (r s at end : ℕ) (u : Unit {0}) → Reads tokens (pair r) at u end → Reads tokens (pair (suc s)) at u end
  pair_to zero s at end u (x, m, (i, m1, e, (v, m2, is, nay)), rest) = absurd nay
  pair_to (suc r) s at end u (x, m, (v, m1, is, g), rest) = (s, m, (v, m1, is, (refl, g.1)), rest)

  each_to : (r s at end : ℕ) (us : List (Unit {0})) → Each (next_sign OpenBracket tokens) (Reads tokens (pair r)) at us end → Each (next_sign OpenBracket tokens) (Reads tokens (pair (suc s))) at us end
  each_to r s at end [] h = h
  each_to r s at end (u ∷ us) (b, (m, h, rest)) = (b, (m, pair_to r s at m u h, each_to r s m end us rest))

  arrays_to : (r s at k end : ℕ) → Reads tokens (arrays r) at k end → Reads tokens (arrays (suc s)) at k end
  arrays_to r s at k end (us, m, (h, nay), g) = (us, m, (each_to r s at m us h, nay), g)

  -- ---- the same type, where one more form may be open

  abbrev Lifts : Rule TypeTree → Rule TypeTree → Type 0
  Lifts d e = (at : ℕ) (t : TypeTree) (end : ℕ) → Reads tokens d at t end → Reads tokens e at t end

  second_to : (d e : Rule TypeTree) → Lifts d e → (a : TypeTree) (at : ℕ) (ts : List TypeTree) (end : ℕ) → Reads tokens (second_arg d a) at ts end → Reads tokens (second_arg e a) at ts end
  second_to d e f a at ts end (inl (c, (u, m, is, (b, n, h, g)))) = inl (c, (u, m, is, (b, n, f m b n h, g)))
  second_to d e f a at ts end (inr h) = inr h

  args_to : (r s : ℕ) (d e : Rule TypeTree) → Lifts d e → (at : ℕ) (ts : List TypeTree) (end : ℕ) → Reads tokens (args_part r d) at ts end → Reads tokens (args_part (suc s) e) at ts end
  args_to zero s d e f at ts end (inl (c, (x, m, (i, m1, h, (v, m2, is, nay)), rest))) = absurd nay
  args_to (suc r) s d e f at ts end (inl (c, (x, m, (v, m1, is, g), (a, n, h, (us, p, k, rest))))) = inl (c, (s, m, (v, m1, is, (refl, g.1)), (a, n, f m a n h, (us, p, second_to d e f a n us p k, rest))))
  args_to r s d e f at ts end (inr h) = inr h

  with_to : (r s : ℕ) (d e : Rule TypeTree) → Lifts d e → Lifts (type_with r d) (type_with (suc s) e)
  with_to r s d e f at t end (i, m, h, (x, m1, n, (y, m2, b, (ts, m3, a, (k, m4, w, rest))))) =
      (i, m, h, (x, m1, n, (y, m2, b, (ts, m3, args_to r s d e f m2 ts m3 a, (k, m4, arrays_to r s m3 k m4 w, rest)))))

  one_more : (r : ℕ) → Lifts (type r) (type (suc r))
  one_more zero = with_to zero zero (deeper_type zero) (type zero) (λ at t end (i, m, h, nay). absurd nay)
  one_more (suc r) = with_to (suc r) (suc r) (type r) (type (suc r)) (one_more r)

  lifted : (k r n : ℕ) → n ≡ k + r → Lifts (type r) (type n)
  lifted zero r n e at t end h = let f : r ≡ n = omega arith in subst (λ z. Reads tokens (type z) at t end) f h
  lifted (suc k) r n e at t end h =
      let f : suc (k + r) ≡ n = omega arith in
      subst (λ z. Reads tokens (type z) at t end) f (one_more (k + r) at t end (lifted k r (k + r) refl at t end h))

  -- ---- signs that stand at a place

  there : (o : Option Shown) (s : Sign) → kind_of o ≡ IsSign s → (t : Shown) × (o ≡ Some t) × (t.kind ≡ IsSign s)
  there (Some t) s e = (t, refl, e)
  there None s e = absurd (cc)

  pub sign_there : (s : Sign) (at : ℕ) → next_sign s tokens at → Reads tokens (sign s) at tt (at + 1)
  sign_there s at e = let p = there (slice_get tokens at) s e in (p.0, p.1, p.2, refl)

  -- ---- one end each

  pub heads_one : {at m n : ℕ} → IsHead tokens at m → IsHead tokens at n → m ≡ n
  heads_one {at = at} {m = m} {n = n} a b =
      let e = reads_one tokens (name InCode) at a.word b.word a.middle b.middle a.names b.names in
      (reads_one tokens member b.middle a.other b.other m n (subst (λ z. Reads tokens member z a.other m) e.1 a.has_member) b.has_member).1

  pub pairs_one : {at m n : ℕ} → ArePairs tokens at m → ArePairs tokens at n → m ≡ n
  pairs_one {at = at} {m = m} {n = n} a b = (reads_one tokens (arrays 1) at a.count b.count m n a.reads b.reads).1

  -- ---- what a type is made of

  abbrev pub Inside : ℕ → ℕ → Type 0
  Inside p end = ((next_sign Less tokens p → ⊥) × ArePairs tokens p end) ⊎ (next_sign Less tokens p × ((q : ℕ) × IsType tokens (p + 1) q × IsClose false tokens q end))

  pub record Made (at end : ℕ) : Type 0 where
    pub middle : ℕ
    pub head : IsHead tokens at middle
    pub inside : Inside middle end

  abbrev Typed : Rule TypeTree → Type 0
  Typed d = (at : ℕ) (t : TypeTree) (end : ℕ) → Reads tokens d at t end → IsType tokens at end

  shut_at : (n2 n3 q end : ℕ) → Reads tokens (sign More) n2 tt n3 → q ≡ n3 → ArePairs tokens q end → IsShut tokens n2 end
  shut_at n2 n3 q end (t, g, k, e) j ps = record { shuts = ap kind_of g ∙ k; pairs = subst (λ z. ArePairs tokens z end) (j ∙ e) ps }

  close_at : (d : Rule TypeTree) → Typed d → (a : TypeTree) (n : ℕ) (us : List TypeTree) (n2 end : ℕ) → Reads tokens (second_arg d a) n us n2 → IsShut tokens n2 end → IsClose false tokens n end
  close_at d f a n us n2 end (inl (c, (v, l1, (t, g, k, e), (b, l2, h, (gb, eb))))) s =
      inr (record { comma = c; middle = l2; is_type = subst (λ z. IsType tokens z l2) e (f l1 b l2 h); shut = subst (λ z. IsShut tokens z end) eb s })
  close_at d f a n us n2 end (inr (nay, (gu, eu))) s = inl (subst (λ z. IsShut tokens z end) eu s)

  inside_of : (r : ℕ) (d : Rule TypeTree) → Typed d → (p : ℕ) (ts : List TypeTree) (q end : ℕ) → Reads tokens (args_part r d) p ts q → ArePairs tokens q end → Inside p end
  inside_of zero d f p ts q end (inl (c, (x, m, (i, m1, h, (v, m2, is, nay)), rest))) ps = absurd nay
  inside_of (suc r) d f p ts q end (inl (c, (x, m, (v, m1, (t1, g1, k1, e1), g), (a, n, h, (us, n2, k, (v2, n3, is, (gt, ge))))))) ps =
      inr (c, (n, subst (λ z. IsType tokens z n) (g.1 ∙ e1) (f m a n h), close_at d f a n us n2 end k (shut_at n2 n3 q end is ge ps)))
  inside_of zero d f p ts q end (inr (nay, (gu, eu))) ps = inl (nay, subst (λ z. ArePairs tokens z end) eu ps)
  inside_of (suc r) d f p ts q end (inr (nay, (gu, eu))) ps = inl (nay, subst (λ z. ArePairs tokens z end) eu ps)

  made_with : (r : ℕ) (d : Rule TypeTree) → Typed d → (at : ℕ) (t : TypeTree) (end : ℕ) → Reads tokens (type_with r d) at t end → Made at end
  made_with r d f at t end (i, m, (ei, em), (x, m1, n, (y, m2, b, (ts, m3, a, (k, m4, w, (s, m5, (es, e5), (et, ee))))))) = record {
    middle = m2;
    head = record { word = x; middle = m1; other = y; names = subst (λ z. Reads tokens (name InCode) z x m1) em n; has_member = b };
    inside = inside_of r d f m2 ts m3 end a (record { count = k; reads = subst (λ z. Reads tokens (arrays 1) m3 k z) (sym (ee ∙ e5)) (arrays_to r 0 m3 k m4 w) });
  }

  made_of : (r at : ℕ) (t : TypeTree) (end : ℕ) → Reads tokens (type r) at t end → Made at end
  made_of zero at t end h = made_with zero (deeper_type zero) (λ a u e (i, m, k, nay). absurd nay) at t end h
  made_of (suc r) at t end h = made_with (suc r) (type r) (λ a u e k. record { room = r; tree = u; reads = k }) at t end h

  pub made : {at end : ℕ} → IsType tokens at end → Made at end
  made {at = at} {end = end} h = made_of h.room at h.tree end h.reads

  -- the same behind a head that is known
  pub inside : {at p end : ℕ} → IsHead tokens at p → IsType tokens at end → Inside p end
  inside {p = p} {end = end} h t = let w = made t in subst (λ z. Inside z end) (heads_one w.head h) w.inside

  -- ---- types from their parts

  of_parts : (r at p q end : ℕ) (ts : List TypeTree) → IsHead tokens at p → Reads tokens (args_part (suc r) (type r)) p ts q → ArePairs tokens q end → IsType tokens at end
  of_parts r at p q end ts h a ps = record {
    room = suc r;
    tree = roll-TypeTree (record { span = span_of tokens at end; name = h.word; member = h.other; args = ts; arrays = ps.count });
    reads = (at, at, (refl, refl), (h.word, h.middle, h.names, (h.other, p, h.has_member, (ts, q, a, (ps.count, end, arrays_to 1 r q ps.count end ps.reads, (span_of tokens at end, end, (refl, refl), (refl, refl)))))));
  }

  pub plain : {at p end : ℕ} → IsHead tokens at p → (next_sign Less tokens p → ⊥) → ArePairs tokens p end → IsType tokens at end
  plain {at = at} {p = p} {end = end} h nay ps = of_parts 0 at p p end [] h (inr (nay, (refl, refl))) ps

  no_comma : (q : ℕ) → next_sign More tokens q → next_sign Comma tokens q → ⊥
  no_comma q a b = cc

  one_arg : (r p q end : ℕ) (a : TypeTree) → next_sign Less tokens p → Reads tokens (type r) (p + 1) a q → IsShut tokens q end → Reads tokens (args_part (suc r) (type r)) p (a ∷ []) (q + 1)
  one_arg r p q end a c h s =
      inl (c, (r, p + 1, (tt, p + 1, sign_there Less p c, (refl, refl)), (a, q, h, (a ∷ [], q, inr (no_comma q s.shuts, (refl, refl)), (tt, q + 1, sign_there More q s.shuts, (refl, refl))))))

  two_args : (r p q l end : ℕ) (a b : TypeTree) → next_sign Less tokens p → Reads tokens (type r) (p + 1) a q → next_sign Comma tokens q → Reads tokens (type r) (q + 1) b l → IsShut tokens l end → Reads tokens (args_part (suc r) (type r)) p (a ∷ b ∷ []) (l + 1)
  two_args r p q l end a b c h k j s =
      inl (c, (r, p + 1, (tt, p + 1, sign_there Less p c, (refl, refl)), (a, q, h, (a ∷ b ∷ [], l, inl (k, (tt, q + 1, sign_there Comma q k, (b, l, j, (refl, refl)))), (tt, l + 1, sign_there More l s.shuts, (refl, refl))))))

  pub with_args : {at p q end : ℕ} → IsHead tokens at p → next_sign Less tokens p → IsType tokens (p + 1) q → IsClose false tokens q end → IsType tokens at end
  with_args {at = at} {p = p} {q = q} {end = end} h c t (inl s) = of_parts t.room at p (q + 1) end (t.tree ∷ []) h (one_arg t.room p q end t.tree c t.reads s) s.pairs
  with_args {at = at} {p = p} {q = q} {end = end} h c t (inr s) =
      let u = s.is_type in
      let n = t.room + u.room in
      of_parts n at p (s.middle + 1) end (t.tree ∷ u.tree ∷ []) h
      (two_args n p q s.middle end t.tree u.tree c (lifted u.room t.room n (omega arith) (p + 1) t.tree q t.reads) s.comma (lifted t.room u.room n refl (q + 1) u.tree s.middle u.reads) s.shut)
      s.shut.pairs
