-- What the modifiers of a member say (docs/language.md, "Members").
use Rattle.std.specs.Prelude.{◌&&◌, ◌||◌, not, Bool, List}
use Rattle.std.specs.List.{list_any}
use Rattle.apex_syntax.specs.declared.unit.MemberModifier.{MemberModifier}
use Rattle.apex_syntax.specs.declared.unit.MemberWord.{MemberWord}
use Rattle.apex_syntax.specs.declared.unit.MemberWord.TheVariants.{Public, Global, Private, Protected, Virtual, Abstract, Override}
use Rattle.apex_syntax.specs.contracts.unit.MemberWordPartialEq.TheImpl.{ghosts}

abbrev pub has_word : MemberWord → List MemberModifier → Bool
has_word word = list_any (λ (m : MemberModifier). ghosts.eq m.word word)

abbrev pub has_access : List MemberModifier → Bool
has_access ms = has_word Public ms || (has_word Global ms || has_word Protected ms)

-- a field or a constructor is private where it says so, and where it says nothing of access
abbrev pub is_private : List MemberModifier → Bool
is_private ms = has_word Private ms || not (has_access ms)

-- a method is virtual where it says `virtual`, `abstract` or `override`, and where it has no body
abbrev pub is_virtual : List MemberModifier → Bool → Bool
is_virtual ms has_body = not has_body || (has_word Virtual ms || (has_word Abstract ms || has_word Override ms))

-- a virtual method that says nothing of access is visible everywhere
abbrev pub is_private_method : List MemberModifier → Bool → Bool
is_private_method ms has_body = has_word Private ms || (not (has_access ms) && not (is_virtual ms has_body))
