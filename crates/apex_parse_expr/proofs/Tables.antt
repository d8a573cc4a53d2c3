-- Tests of tokens and the tables of the rules agree, token by token.
use Rattle.std.specs.Prelude.{◌≡◌, ◌||◌, ℕ, List, Bool, true, false}
use Rattle.std.specs.Option.{is_some}
use Rattle.std.proofs.Common.{refl}
use Rattle.apex_text.specs.declared.place.Span.{Span}
use Rattle.apex_lexer.specs.declared.token.Keyword.{Keyword}
use Rattle.apex_lexer.specs.declared.token.Keyword.TheVariants as Words
use Rattle.apex_lexer.specs.declared.token.Sign.TheVariants as Signs
use Rattle.apex_lexer.specs.declared.token.TokenKind.{TokenKind}
use Rattle.apex_lexer.specs.declared.token.TokenKind.TheVariants as Kinds
use Rattle.token_grammar.specs.declared.read.Names.TheVariants.{InCode}
use Rattle.token_grammar.specs.Tokens.{is_name}
use Rattle.apex_parse_leaf.specs.Casts.{begins_operand_word}
use Rattle.apex_parse_leaf.specs.Leaves.{step_kind, is_step, prefix_kind, is_prefix, word_expr}

pub step_table : (s : Span) (k : TokenKind) → is_step k ≡ is_some (step_kind s k)
step_table s Kinds.Name = refl
step_table s (Kinds.Keyword k) = refl
step_table s (Kinds.Integer n) = refl
step_table s (Kinds.Long n) = refl
step_table s (Kinds.Decimal n) = refl
step_table s Kinds.Quoted = refl
step_table s (Kinds.Date d) = refl
step_table s (Kinds.Moment m) = refl
step_table s Kinds.End = refl
step_table s (Kinds.Sign Signs.Identical) = refl
step_table s (Kinds.Sign Signs.NotIdentical) = refl
step_table s (Kinds.Sign Signs.Equal) = refl
step_table s (Kinds.Sign Signs.Differs) = refl
step_table s (Kinds.Sign Signs.AtMost) = refl
step_table s (Kinds.Sign Signs.AtLeast) = refl
step_table s (Kinds.Sign Signs.And) = refl
step_table s (Kinds.Sign Signs.Or) = refl
step_table s (Kinds.Sign Signs.Increment) = refl
step_table s (Kinds.Sign Signs.Decrement) = refl
step_table s (Kinds.Sign Signs.AddTo) = refl
step_table s (Kinds.Sign Signs.SubtractFrom) = refl
step_table s (Kinds.Sign Signs.MultiplyBy) = refl
step_table s (Kinds.Sign Signs.DivideBy) = refl
step_table s (Kinds.Sign Signs.Arrow) = refl
step_table s (Kinds.Sign Signs.Plus) = refl
step_table s (Kinds.Sign Signs.Minus) = refl
step_table s (Kinds.Sign Signs.Star) = refl
step_table s (Kinds.Sign Signs.Slash) = refl
step_table s (Kinds.Sign Signs.Less) = refl
step_table s (Kinds.Sign Signs.More) = refl
step_table s (Kinds.Sign Signs.Assign) = refl
step_table s (Kinds.Sign Signs.Not) = refl
step_table s (Kinds.Sign Signs.Question) = refl
step_table s (Kinds.Sign Signs.Colon) = refl
step_table s (Kinds.Sign Signs.Dot) = refl
step_table s (Kinds.Sign Signs.Comma) = refl
step_table s (Kinds.Sign Signs.Semicolon) = refl
step_table s (Kinds.Sign Signs.OpenParen) = refl
step_table s (Kinds.Sign Signs.CloseParen) = refl
step_table s (Kinds.Sign Signs.OpenBracket) = refl
step_table s (Kinds.Sign Signs.CloseBracket) = refl
step_table s (Kinds.Sign Signs.OpenBrace) = refl
step_table s (Kinds.Sign Signs.CloseBrace) = refl
step_table s (Kinds.Sign Signs.At) = refl

pub prefix_table : (k : TokenKind) → is_prefix k ≡ is_some (prefix_kind k)
prefix_table Kinds.Name = refl
prefix_table (Kinds.Keyword k) = refl
prefix_table (Kinds.Integer n) = refl
prefix_table (Kinds.Long n) = refl
prefix_table (Kinds.Decimal n) = refl
prefix_table Kinds.Quoted = refl
prefix_table (Kinds.Date d) = refl
prefix_table (Kinds.Moment m) = refl
prefix_table Kinds.End = refl
prefix_table (Kinds.Sign Signs.Identical) = refl
prefix_table (Kinds.Sign Signs.NotIdentical) = refl
prefix_table (Kinds.Sign Signs.Equal) = refl
prefix_table (Kinds.Sign Signs.Differs) = refl
prefix_table (Kinds.Sign Signs.AtMost) = refl
prefix_table (Kinds.Sign Signs.AtLeast) = refl
prefix_table (Kinds.Sign Signs.And) = refl
prefix_table (Kinds.Sign Signs.Or) = refl
prefix_table (Kinds.Sign Signs.Increment) = refl
prefix_table (Kinds.Sign Signs.Decrement) = refl
prefix_table (Kinds.Sign Signs.AddTo) = refl
prefix_table (Kinds.Sign Signs.SubtractFrom) = refl
prefix_table (Kinds.Sign Signs.MultiplyBy) = refl
prefix_table (Kinds.Sign Signs.DivideBy) = refl
prefix_table (Kinds.Sign Signs.Arrow) = refl
prefix_table (Kinds.Sign Signs.Plus) = refl
prefix_table (Kinds.Sign Signs.Minus) = refl
prefix_table (Kinds.Sign Signs.Star) = refl
prefix_table (Kinds.Sign Signs.Slash) = refl
prefix_table (Kinds.Sign Signs.Less) = refl
prefix_table (Kinds.Sign Signs.More) = refl
prefix_table (Kinds.Sign Signs.Assign) = refl
prefix_table (Kinds.Sign Signs.Not) = refl
prefix_table (Kinds.Sign Signs.Question) = refl
prefix_table (Kinds.Sign Signs.Colon) = refl
prefix_table (Kinds.Sign Signs.Dot) = refl
prefix_table (Kinds.Sign Signs.Comma) = refl
prefix_table (Kinds.Sign Signs.Semicolon) = refl
prefix_table (Kinds.Sign Signs.OpenParen) = refl
prefix_table (Kinds.Sign Signs.CloseParen) = refl
prefix_table (Kinds.Sign Signs.OpenBracket) = refl
prefix_table (Kinds.Sign Signs.CloseBracket) = refl
prefix_table (Kinds.Sign Signs.OpenBrace) = refl
prefix_table (Kinds.Sign Signs.CloseBrace) = refl
prefix_table (Kinds.Sign Signs.At) = refl

abbrev pub is_new : Keyword → Bool
is_new Words.New = true
is_new _ = false

pub word_table : (s : Span) (k : Keyword) → begins_operand_word k ≡ (is_some (word_expr s k) || (is_new k || is_name InCode (Kinds.Keyword k)))
word_table s Words.Abstract = refl
word_table s Words.Break = refl
word_table s Words.Catch = refl
word_table s Words.Class = refl
word_table s Words.Continue = refl
word_table s Words.Delete = refl
word_table s Words.Do = refl
word_table s Words.Else = refl
word_table s Words.Extends = refl
word_table s Words.False = refl
word_table s Words.Final = refl
word_table s Words.Finally = refl
word_table s Words.For = refl
word_table s Words.Global = refl
word_table s Words.If = refl
word_table s Words.Implements = refl
word_table s Words.Insert = refl
word_table s Words.Interface = refl
word_table s Words.New = refl
word_table s Words.Null = refl
word_table s Words.Override = refl
word_table s Words.Private = refl
word_table s Words.Protected = refl
word_table s Words.Public = refl
word_table s Words.Return = refl
word_table s Words.Static = refl
word_table s Words.Super = refl
word_table s Words.This = refl
word_table s Words.Throw = refl
word_table s Words.True = refl
word_table s Words.Try = refl
word_table s Words.Update = refl
word_table s Words.Upsert = refl
word_table s Words.Virtual = refl
word_table s Words.Void = refl
word_table s Words.While = refl
word_table s Words.Select = refl
word_table s Words.From = refl
word_table s Words.Where = refl
word_table s Words.And = refl
word_table s Words.Or = refl
word_table s Words.Not = refl
word_table s Words.In = refl
word_table s Words.Like = refl
word_table s Words.Order = refl
word_table s Words.By = refl
word_table s Words.Group = refl
word_table s Words.Limit = refl
word_table s Words.Offset = refl
word_table s Words.Asc = refl
word_table s Words.Desc = refl
word_table s Words.Nulls = refl
word_table s Words.After = refl
word_table s Words.Before = refl
word_table s Words.Count = refl
word_table s Words.First = refl
word_table s Words.Get = refl
word_table s Words.Inherited = refl
word_table s Words.Last = refl
word_table s Words.On = refl
word_table s Words.Set = refl
word_table s Words.Sharing = refl
word_table s Words.Trigger = refl
word_table s Words.With = refl
word_table s Words.Without = refl
