-- The words of the tables (docs/formats.md, "Tokens").
use Rattle.std.specs.Prelude.{ℕ, List, [], ◌∷◌, codes, Option, None, Some, cond, bytes_eq}
use Rattle.apex_text.specs.Fold.{folded}
use Rattle.apex_lexer.specs.declared.table.SignRow.{SignRow}
use Rattle.apex_lexer.specs.declared.table.KeywordRow.{KeywordRow}
use Rattle.apex_lexer.specs.declared.token.Sign.{Sign}
use Rattle.apex_lexer.specs.declared.token.Keyword.{Keyword}
use Rattle.apex_lexer.specs.declared.token.Keyword.TheVariants as Word
use Rattle.apex_lexer.specs.declared.token.TokenKind.{TokenKind}
use Rattle.apex_lexer.specs.declared.token.TokenKind.TheVariants.{Name, Keyword as IsKeyword}

-- the value that stands beside a word
abbrev pub value_of : {V : Type 0} → List (List ℕ × V) → List ℕ → Option V
value_of [] word = None
value_of (row ∷ rows) word = cond (bytes_eq row.0 word) (Some row.1) (value_of rows word)

abbrev pub sign_shown : SignRow → List ℕ × Sign
sign_shown row = (row.text.now, row.sign)

abbrev pub keyword_shown : KeywordRow → List ℕ × Keyword
keyword_shown row = (row.word.now, row.keyword)

unfoldable pub sign_words : List (List ℕ × Sign)
sign_words =
    (codes "!", Sign.Not) ∷
    (codes "!=", Sign.Differs) ∷
    (codes "!==", Sign.NotIdentical) ∷
    (codes "&&", Sign.And) ∷
    (codes "(", Sign.OpenParen) ∷
    (codes ")", Sign.CloseParen) ∷
    (codes "*", Sign.Star) ∷
    (codes "*=", Sign.MultiplyBy) ∷
    (codes "+", Sign.Plus) ∷
    (codes "++", Sign.Increment) ∷
    (codes "+=", Sign.AddTo) ∷
    (codes ",", Sign.Comma) ∷
    (codes "-", Sign.Minus) ∷
    (codes "--", Sign.Decrement) ∷
    (codes "-=", Sign.SubtractFrom) ∷
    (codes ".", Sign.Dot) ∷
    (codes "/", Sign.Slash) ∷
    (codes "/=", Sign.DivideBy) ∷
    (codes ":", Sign.Colon) ∷
    (codes ";", Sign.Semicolon) ∷
    (codes "<", Sign.Less) ∷
    (codes "<=", Sign.AtMost) ∷
    (codes "=", Sign.Assign) ∷
    (codes "==", Sign.Equal) ∷
    (codes "===", Sign.Identical) ∷
    (codes "=>", Sign.Arrow) ∷
    (codes ">", Sign.More) ∷
    (codes ">=", Sign.AtLeast) ∷
    (codes "?", Sign.Question) ∷
    (codes "@", Sign.At) ∷
    (codes "[", Sign.OpenBracket) ∷
    (codes "]", Sign.CloseBracket) ∷
    (codes "{", Sign.OpenBrace) ∷
    (codes "||", Sign.Or) ∷
    (codes "}", Sign.CloseBrace) ∷
    []

unfoldable pub keyword_words : List (List ℕ × Keyword)
keyword_words =
    (codes "abstract", Word.Abstract) ∷
    (codes "after", Word.After) ∷
    (codes "and", Word.And) ∷
    (codes "asc", Word.Asc) ∷
    (codes "before", Word.Before) ∷
    (codes "break", Word.Break) ∷
    (codes "by", Word.By) ∷
    (codes "catch", Word.Catch) ∷
    (codes "class", Word.Class) ∷
    (codes "continue", Word.Continue) ∷
    (codes "count", Word.Count) ∷
    (codes "delete", Word.Delete) ∷
    (codes "desc", Word.Desc) ∷
    (codes "do", Word.Do) ∷
    (codes "else", Word.Else) ∷
    (codes "extends", Word.Extends) ∷
    (codes "false", Word.False) ∷
    (codes "final", Word.Final) ∷
    (codes "finally", Word.Finally) ∷
    (codes "first", Word.First) ∷
    (codes "for", Word.For) ∷
    (codes "from", Word.From) ∷
    (codes "get", Word.Get) ∷
    (codes "global", Word.Global) ∷
    (codes "group", Word.Group) ∷
    (codes "if", Word.If) ∷
    (codes "implements", Word.Implements) ∷
    (codes "in", Word.In) ∷
    (codes "inherited", Word.Inherited) ∷
    (codes "insert", Word.Insert) ∷
    (codes "interface", Word.Interface) ∷
    (codes "last", Word.Last) ∷
    (codes "like", Word.Like) ∷
    (codes "limit", Word.Limit) ∷
    (codes "new", Word.New) ∷
    (codes "not", Word.Not) ∷
    (codes "null", Word.Null) ∷
    (codes "nulls", Word.Nulls) ∷
    (codes "offset", Word.Offset) ∷
    (codes "on", Word.On) ∷
    (codes "or", Word.Or) ∷
    (codes "order", Word.Order) ∷
    (codes "override", Word.Override) ∷
    (codes "private", Word.Private) ∷
    (codes "protected", Word.Protected) ∷
    (codes "public", Word.Public) ∷
    (codes "return", Word.Return) ∷
    (codes "select", Word.Select) ∷
    (codes "set", Word.Set) ∷
    (codes "sharing", Word.Sharing) ∷
    (codes "static", Word.Static) ∷
    (codes "super", Word.Super) ∷
    (codes "this", Word.This) ∷
    (codes "throw", Word.Throw) ∷
    (codes "trigger", Word.Trigger) ∷
    (codes "true", Word.True) ∷
    (codes "try", Word.Try) ∷
    (codes "update", Word.Update) ∷
    (codes "upsert", Word.Upsert) ∷
    (codes "virtual", Word.Virtual) ∷
    (codes "void", Word.Void) ∷
    (codes "where", Word.Where) ∷
    (codes "while", Word.While) ∷
    (codes "with", Word.With) ∷
    (codes "without", Word.Without) ∷
    []

-- the sign that is written so
abbrev pub sign_of : List ℕ → Option Sign
sign_of word = value_of sign_words word

-- the keyword that is written so, in any case
abbrev pub keyword_of : List ℕ → Option Keyword
keyword_of word = value_of keyword_words (folded word)

abbrev pub kind_of : Option Keyword → TokenKind
kind_of None = Name
kind_of (Some k) = IsKeyword k

-- what a word says
abbrev pub word_kind : List ℕ → TokenKind
word_kind word = kind_of (keyword_of word)
