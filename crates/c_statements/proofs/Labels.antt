-- Labels that stand in two lists.
use Rattle.std.proofs.Common.{◌≡◌, ℕ, Bool, true, false, List, [], ◌∷◌, ◌++◌, ◌||◌, refl, ap, sym, ◌∙◌, is_none}
use Rattle.c_tree.specs.declared.tree.Label.{Label}
use Rattle.c_tree.specs.Nodes.{has_default, has_label, is_label}

or_or : (a b c : Bool) → (a || (b || c)) ≡ ((a || b) || c)
or_or true b c = refl
or_or false b c = refl

pub default_in_both : (before labels : List Label) → has_default (before ++ labels) ≡ (has_default before || has_default labels)
default_in_both [] labels = refl
default_in_both (l ∷ ls) labels = ap (λ t. is_none l.value || t) (default_in_both ls labels) ∙ or_or (is_none l.value) (has_default ls) (has_default labels)

pub label_in_both : (w : ℕ) (before labels : List Label) → has_label w (before ++ labels) ≡ (has_label w before || has_label w labels)
label_in_both w [] labels = refl
label_in_both w (l ∷ ls) labels = ap (λ t. is_label w l.value || t) (label_in_both w ls labels) ∙ or_or (is_label w l.value) (has_label w ls) (has_label w labels)
