-- The words of all variables, one after another.
use Rattle.std.proofs.Common.{◌≡◌, ℕ, List, [], ◌∷◌, ◌++◌, sym, ap, ◌∙◌, append_assoc, append-nil}
use Rattle.std.specs.Prelude.{map}
use Rattle.c_tree.specs.declared.tree.Variable.{Variable}
use Rattle.c_tree.specs.Meaning.{first_words}

pub store_more : (store new : List (List ℕ)) (words : List ℕ) (v : Variable) (rest after : List Variable) (whole : List (List ℕ))
    → new ≡ store ++ words ∷ [] → words ≡ first_words v → rest ≡ v ∷ after → store ++ map first_words rest ≡ whole → new ++ map first_words after ≡ whole
store_more store new words v rest after whole a b c d =
    ap (λ l. l ++ map first_words after) a ∙ append_assoc store (words ∷ []) (map first_words after) ∙ ap (λ w. store ++ w ∷ map first_words after) b
    ∙ ap (λ r. store ++ map first_words r) (sym c) ∙ d

pub store_all : (store : List (List ℕ)) (rest : List Variable) (whole : List (List ℕ)) → rest ≡ [] → store ++ map first_words rest ≡ whole → store ≡ whole
store_all store rest whole c d = sym (append-nil store) ∙ ap (λ r. store ++ map first_words r) (sym c) ∙ d
