-- A word of an operator's class is an operator of the table of levels.
use Rattle.std.proofs.Common.{◌≡◌, ℕ, List, [], ◌∷◌, Bool, true, false, not, ◌||◌, ◌&&◌, ◌<◌, inl, inr, refl, sym, subst, bytes_eq}
use Rattle.std.specs.List.{list_all}
use Rattle.std.specs.Prelude.{nat_lt}
use Rattle.std.proofs.lemmas.Bool.{cond-true, cond-false, cases_Bool, ltb-true}
use Rattle.std.proofs.lemmas.Slice.Eq.{bytes_eq-Decides}
use Rattle.c_lex.specs.declared.token.TokenKind.{TokenKind}
use Rattle.c_lex.specs.declared.token.TokenKind.TheVariants as kind
use Rattle.base_io.specs.declared.place.Place.{Place}
use Rattle.c_parse.specs.declared.class.Class.{Class}
use Rattle.c_parse.specs.declared.class.Class.TheVariants as class
use Rattle.c_parse.specs.declared.raw.Raw.{out-Raw}
use Rattle.c_parse.specs.declared.raw.Raw.TheVariants.{Leaf}
use denote.Hole.Carrier.{out}
use Rattle.c_parse.specs.Classes.{class_of, class_among, keyword_classes, sign_classes}
use Rattle.c_parse.specs.Words.{Word, Genuine}
use Rattle.c_parse.specs.Precedence.{row_of, operator_rows, level_of}
use Rattle.c_parse.specs.Grouping.{IsOperator}

-- the classes of Grammar's operators
abbrev pub of_operator : Class → Bool
of_operator class.Star = true
of_operator class.Divide = true
of_operator class.Plus = true
of_operator class.Minus = true
of_operator class.Shift = true
of_operator class.Relation = true
of_operator class.Equality = true
of_operator class.Ampersand = true
of_operator class.Caret = true
of_operator class.Bar = true
of_operator class.AndAnd = true
of_operator class.BarBar = true
of_operator _ = false

-- where the class is an operator's, the bytes have a row
abbrev in_a_row : List ℕ → Class → Bool
in_a_row bytes class = not (of_operator class) || nat_lt (row_of operator_rows bytes) 10

and_both : (x y : Bool) → (x && y) ≡ true → (x ≡ true) × (y ≡ true)
and_both true y h = (refl, h)
and_both false y h = absurd (cc)

-- What holds of each row of a table, and of what has none, holds of the class that the table gives.
among_rows : (holds : List ℕ → Class → Bool) (rows : List (List ℕ × Class)) (bytes : List ℕ)
    → list_all (λ row. holds row.0 row.1) rows ≡ true → holds bytes class.Unused ≡ true → holds bytes (class_among rows bytes) ≡ true
among_rows holds [] bytes all none = none
among_rows holds (row ∷ rows) bytes all none =
    let here = and_both (holds row.0 row.1) (list_all (λ row. holds row.0 row.1) rows) all in
    elim (cases_Bool (bytes_eq row.0 bytes)) [
      | inl same ↦
          subst (λ c. holds bytes c ≡ true) (sym (cond-true (bytes_eq row.0 bytes) row.1 (class_among rows bytes) same))
          (subst (λ bs. holds bs row.1 ≡ true) ((bytes_eq-Decides row.0 bytes).0 same) here.0)
      | inr other ↦
          subst (λ c. holds bytes c ≡ true) (sym (cond-false (bytes_eq row.0 bytes) row.1 (class_among rows bytes) other))
          (among_rows holds rows bytes here.1 none)
    ]

sign_rows : list_all (λ row. in_a_row row.0 row.1) sign_classes ≡ true
unfolding sign_classes
sign_rows = refl

keyword_rows : list_all (λ row. in_a_row row.0 row.1) keyword_classes ≡ true
unfolding keyword_classes
keyword_rows = refl

rows_of_kind : (kind : TokenKind) (bytes : List ℕ) → in_a_row bytes (class_of kind bytes) ≡ true
rows_of_kind kind.Name bytes = refl
rows_of_kind (kind.Number value unsigned) bytes = refl
rows_of_kind kind.Sign bytes = among_rows in_a_row sign_classes bytes sign_rows refl
rows_of_kind kind.Keyword bytes = among_rows in_a_row keyword_classes bytes keyword_rows refl

row_known : (known : Bool) (row : ℕ) → known ≡ true → (not known || nat_lt row 10) ≡ true → nat_lt row 10 ≡ true
row_known true row k h = h
row_known false row k h = absurd (cc)

leaf_level : (kind : TokenKind) (bytes : List ℕ) (place : Place) → level_of (Leaf kind bytes place) ≡ row_of operator_rows bytes
unfolding level_of out-Raw out
leaf_level kind bytes place = refl

pub operator_word : (word : Word) → Genuine word → of_operator word.class ≡ true → IsOperator word.leaf
operator_word word genuine of =
    let known : of_operator (class_of genuine.kind genuine.bytes) ≡ true = subst (λ c. of_operator c ≡ true) genuine.class of in
    let row = row_known _ (row_of operator_rows genuine.bytes) known (rows_of_kind genuine.kind genuine.bytes) in
    subst (λ leaf. level_of leaf < 10) (sym genuine.leaf)
    (subst (λ n. n < 10) (sym (leaf_level genuine.kind genuine.bytes genuine.place)) (ltb-true _ _ row))
