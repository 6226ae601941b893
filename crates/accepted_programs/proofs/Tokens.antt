-- What is known of the tokens of a text, by their classes.
use Rattle.std.proofs.Common.{◌≡◌, refl, ap, subst, ◌∙◌, ℕ, Bool, true, false, List, [], ◌∷◌, ◌^◌}
use Rattle.std.specs.Prelude.{codes, cond, ◌&&◌, nat_lt}
use Rattle.std.specs.Str.{bytes_eq}
use Rattle.std.specs.Bool.{Decides}
use Rattle.std.proofs.lemmas.Slice.Eq.{bytes_eq-Decides}
use Rattle.c_lex.specs.declared.token.TokenKind.{TokenKind}
use Rattle.c_lex.specs.declared.token.TokenKind.TheVariants as token
use Rattle.c_parse.specs.declared.class.Class.{Class}
use Rattle.c_parse.specs.declared.class.Class.TheVariants as class
use Rattle.c_parse.specs.Classes.{class_among, class_of, keyword_classes, sign_classes}
use Rattle.c_typing.specs.Judged.{Judged, is_token}
use Rattle.accepted_programs.specs.Texts.{IsPlausible}

-- the spelling that a class has, where it has one
abbrev spelled : Class → List ℕ → Bool
spelled class.Static text = bytes_eq text (codes "static")
spelled class.Const text = bytes_eq text (codes "const")
spelled class.Void text = bytes_eq text (codes "void")
spelled class.Open text = bytes_eq text (codes "(")
spelled class.OpenIndex text = bytes_eq text (codes "[")
spelled class.Break text = bytes_eq text (codes "break")
spelled class.Continue text = bytes_eq text (codes "continue")
spelled class.Return text = bytes_eq text (codes "return")
spelled class.If text = bytes_eq text (codes "if")
spelled class.While text = bytes_eq text (codes "while")
spelled class.Do text = bytes_eq text (codes "do")
spelled class.For text = bytes_eq text (codes "for")
spelled class.Switch text = bytes_eq text (codes "switch")
spelled class.Semicolon text = bytes_eq text (codes ";")
spelled class.Close text = bytes_eq text (codes ")")
spelled class.Name text = false
spelled class.Number text = false
spelled _ text = true

abbrev all_spelled : List (List ℕ × Class) → Bool
all_spelled [] = true
all_spelled (row ∷ rows) = spelled row.1 row.0 && all_spelled rows

left : (a b : Bool) → (a && b) ≡ true → a ≡ true
left true b h = refl
left false b h = h

right : (a b : Bool) → (a && b) ≡ true → b ≡ true
right true b h = h
right false b h = cc

among_spelled : (rows : List (List ℕ × Class)) (text : List ℕ) → all_spelled rows ≡ true → spelled (class_among rows text) text ≡ true
among_spelled [] text h = refl
among_spelled (row ∷ rows) text h = by (bytes_eq row.0 text) (bytes_eq-Decides row.0 text) (among_spelled rows text (right (spelled row.1 row.0) (all_spelled rows) h))
  where
    by : (b : Bool) → Decides b (row.0 ≡ text) → spelled (class_among rows text) text ≡ true → spelled (cond b row.1 (class_among rows text)) text ≡ true
    by true d r = subst (λ t. spelled row.1 t ≡ true) (d.0 refl) (left (spelled row.1 row.0) (all_spelled rows) h)
    by false d r = r

keywords_spelled : all_spelled keyword_classes ≡ true
unfolding keyword_classes
keywords_spelled = refl

signs_spelled : all_spelled sign_classes ≡ true
unfolding sign_classes
signs_spelled = refl

-- what is known of a token of a class
pub record IsToken (c : Class) (j : Judged) : Type 0 where
  pub token : is_token j ≡ true
  pub kind : TokenKind
  pub is : j.kind ≡ kind
  pub class : c ≡ class_of kind j.text
  pub plausible : IsPlausible kind j.text

pub spelling : (c : Class) (j : Judged) → (c ≡ class.Name → ⊥) → (c ≡ class.Number → ⊥) → IsToken c j → spelled c j.text ≡ true
spelling c j name number t = by t.kind t.class
  where
    by : (k : TokenKind) → c ≡ class_of k j.text → spelled c j.text ≡ true
    by token.Name h = absurd (name h)
    by (token.Number n u) h = absurd (number h)
    by token.Sign h = ap (λ z. spelled z j.text) h ∙ among_spelled sign_classes j.text signs_spelled
    by token.Keyword h = ap (λ z. spelled z j.text) h ∙ among_spelled keyword_classes j.text keywords_spelled

false_true : (a b : Bool) → a ≡ false → a ≡ true → ⊥
false_true a b h k = cc

pub name_kind : (j : Judged) → IsToken class.Name j → (j.kind ≡ token.Name) × (bytes_eq j.text (codes "(") ≡ false)
name_kind j t = by t.kind t.is t.class t.plausible
  where
    never : (rows : List (List ℕ × Class)) → all_spelled rows ≡ true → class.Name ≡ class_among rows j.text → ⊥
    never rows ok h = false_true (spelled class.Name j.text) true refl (ap (λ z. spelled z j.text) h ∙ among_spelled rows j.text ok)

    by : (k : TokenKind) → j.kind ≡ k → class.Name ≡ class_of k j.text → IsPlausible k j.text → (j.kind ≡ token.Name) × (bytes_eq j.text (codes "(") ≡ false)
    by token.Name is h p = (is, p)
    by (token.Number n u) is h p = cc
    by token.Sign is h p = absurd (never sign_classes signs_spelled h)
    by token.Keyword is h p = absurd (never keyword_classes keywords_spelled h)

pub number_kind : (j : Judged) → IsToken class.Number j → (n : ℕ) × (u : Bool) × (j.kind ≡ token.Number n u) × (nat_lt n (2 ^ 16) ≡ true)
number_kind j t = by t.kind t.is t.class t.plausible
  where
    never : (rows : List (List ℕ × Class)) → all_spelled rows ≡ true → class.Number ≡ class_among rows j.text → ⊥
    never rows ok h = false_true (spelled class.Number j.text) true refl (ap (λ z. spelled z j.text) h ∙ among_spelled rows j.text ok)

    by : (k : TokenKind) → j.kind ≡ k → class.Number ≡ class_of k j.text → IsPlausible k j.text → (n : ℕ) × (u : Bool) × (j.kind ≡ token.Number n u) × (nat_lt n (2 ^ 16) ≡ true)
    by token.Name is h p = cc
    by (token.Number n u) is h p = (n, u, is, p)
    by token.Sign is h p = absurd (never sign_classes signs_spelled h)
    by token.Keyword is h p = absurd (never keyword_classes keywords_spelled h)

-- a token's text is what it spells
pub text_is : (j : Judged) (text : List ℕ) → bytes_eq j.text text ≡ true → j.text ≡ text
text_is j text h = (bytes_eq-Decides j.text text).0 h
