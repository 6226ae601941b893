-- The paths of a board, by its tables' names.
use Rattle.std.proofs.Common.{◌≡◌, ◌∙◌, ◌&&◌, ◌||◌, Bool, true, false, List, [], ◌∷◌, refl, ap, codes}
use Rattle.std.proofs.lemmas.Bool.{and_right, or_from}
use Rattle.std.specs.List.{list_any}
use Rattle.std.specs.Str.{bytes_eq}
use Rattle.board_table.specs.Keys.{Key, at_top, in_table, Path, Text, board_keys, is_board_path, leads_to, path_of_key}
use Rattle.board_table.specs.Steps.{access_names, core_names, top_names}

abbrev pub is_among : Text → List Text → Bool
is_among k keys = list_any (λ w. bytes_eq w k) keys

-- the paths of a board, table by table
abbrev pub is_board_key : Path → Bool
is_board_key [] = true
is_board_key (k ∷ []) = is_among k top_names
is_board_key (name ∷ k ∷ []) = (bytes_eq (codes "core") name && is_among k core_names) || (bytes_eq (codes "access") name && is_among k access_names)
is_board_key (name ∷ k ∷ l ∷ ks) = false

top_same : (b c a : Bool) → (b && true
    || (c && true || (c && true || (c && true || (c && true || (c && true || (c && true
    || (a && true || (a && true || (a && true || (a && true || (a && true || (a && true || (a && true || false)))))))))))))) ≡ (b || (c || (a || false)))
top_same true c a = refl
top_same false true a = refl
top_same false false true = refl
top_same false false false = refl

-- the test of each key of a table, behind the test of the table's name
abbrev each : Bool → Text → List Text → Bool → Bool
each named k [] rest = rest
each named k (key ∷ keys) rest = (named && (bytes_eq key k && true)) || each named k keys rest

one_more : (x y z w : Bool) → z ≡ (y || w) → (x && true || z) ≡ (x || y || w)
one_more true y z w e = refl
one_more false y z w e = e

each_is : (named : Bool) (k : Text) (keys : List Text) (rest : Bool) → each named k keys rest ≡ (named && is_among k keys || rest)
each_is true k [] rest = refl
each_is true k (key ∷ keys) rest = one_more (bytes_eq key k) (is_among k keys) (each true k keys rest) rest (each_is true k keys rest)
each_is false k [] rest = refl
each_is false k (key ∷ keys) rest = each_is false k keys rest

or_false : (x : Bool) → (x || false) ≡ x
or_false true = refl
or_false false = refl

two_same : (name k : Text) → is_board_path (name ∷ k ∷ []) ≡ is_board_key (name ∷ k ∷ [])
two_same name k =
    let budget = bytes_eq (codes "budget") name in
    let core = bytes_eq (codes "core") name in
    let access = bytes_eq (codes "access") name in
    let in_access = each access k access_names false in
    ap (λ (x : Bool). x || each core k core_names in_access) (and_right budget false refl)
    ∙ each_is core k core_names in_access
    ∙ ap (λ (x : Bool). (core && is_among k core_names) || x) (each_is access k access_names false ∙ or_false (access && is_among k access_names))

too_long : (name k l : Text) (ks : Path) (key : Key) → leads_to (name ∷ k ∷ l ∷ ks) (path_of_key key) ≡ false
too_long name k l ks (at_top key least most) = and_right (bytes_eq key name) false refl
too_long name k l ks (in_table table key least most) = and_right (bytes_eq table name) _ (and_right (bytes_eq key k) false refl)

none_so_long : (name k l : Text) (ks : Path) (keys : List Key) → list_any (λ key. leads_to (name ∷ k ∷ l ∷ ks) (path_of_key key)) keys ≡ false
none_so_long name k l ks [] = refl
none_so_long name k l ks (key ∷ keys) = or_from _ _ (too_long name k l ks key) (none_so_long name k l ks keys)

pub same_paths : (p : Path) → is_board_path p ≡ is_board_key p
same_paths [] = refl
same_paths (k ∷ []) = top_same (bytes_eq (codes "budget") k) (bytes_eq (codes "core") k) (bytes_eq (codes "access") k)
same_paths (name ∷ k ∷ []) = two_same name k
same_paths (name ∷ k ∷ l ∷ ks) = none_so_long name k l ks board_keys
