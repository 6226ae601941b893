-- What is asked of trees: groups that end in a jump, and parameters that have names.
use Rattle.std.specs.Prelude.{ℕ, zero, suc, List, [], ◌∷◌, Bool, true, false, ◌||◌, ◌&&◌, codes}
use Rattle.std.specs.Str.{bytes_eq}
use Rattle.c_parse.specs.declared.raw.Raw.{Raw, out-Raw}
use Rattle.c_parse.specs.declared.raw.Raw.TheOpen.{Raw-F}
use Rattle.c_parse.specs.declared.raw.RawRule.TheVariants.{Statement, Block, Item, Param}
use Rattle.c_lex.specs.declared.token.TokenKind.TheVariants.{Keyword, Name}

-- what stands at a tree's top
abbrev Layer : Type 0
Layer = Raw-F Raw

abbrev pub is_jump_layer : Layer → Bool
is_jump_layer (Raw-F.Leaf Keyword text _) = bytes_eq text (codes "break") || (bytes_eq text (codes "continue") || bytes_eq text (codes "return"))
is_jump_layer _ = false

-- the leaf is break, continue or return
abbrev pub is_jump : Raw → Bool
is_jump raw = is_jump_layer (out-Raw raw)

abbrev pub but_last : List Raw → List Raw
but_last [] = []
but_last (last ∷ []) = []
but_last (first ∷ second ∷ rest) = first ∷ but_last (second ∷ rest)

-- a block whose items, between its braces, end so
abbrev pub block_ends : (List Raw → Bool) → Layer → Bool
block_ends items_end (Raw-F.Node Block parts) = items_end (but_last parts)
block_ends items_end _ = false

-- a statement that is a jump, or a block that ends so
abbrev pub statement_ends : (List Raw → Bool) → Layer → Bool
statement_ends items_end (Raw-F.Node Statement (first ∷ _)) = is_jump first || block_ends items_end (out-Raw first)
statement_ends items_end _ = false

abbrev pub item_ends : (List Raw → Bool) → Layer → Bool
item_ends items_end (Raw-F.Node Item (first ∷ _)) = statement_ends items_end (out-Raw first)
item_ends items_end _ = false

abbrev pub last_ends : (List Raw → Bool) → List Raw → Bool
last_ends items_end [] = false
last_ends items_end (last ∷ []) = item_ends items_end (out-Raw last)
last_ends items_end (first ∷ second ∷ rest) = last_ends items_end (second ∷ rest)

-- The last of these is break, continue or return, or a block that ends so, through this many blocks at most.
abbrev pub ends_through : ℕ → List Raw → Bool
ends_through zero parts = last_ends (λ inner. false) parts
ends_through (suc blocks) parts = last_ends (λ inner. ends_through blocks inner) parts

-- Statements nest 64 deep at most.
abbrev pub ends_in_jump : List Raw → Bool
ends_in_jump parts = ends_through 64 parts

abbrev pub is_name : Layer → Bool
is_name (Raw-F.Leaf Name _ _) = true
is_name _ = false

abbrev pub last_is_name : List Raw → Bool
last_is_name [] = false
last_is_name (last ∷ []) = is_name (out-Raw last)
last_is_name (first ∷ second ∷ rest) = last_is_name (second ∷ rest)

abbrev pub has_name_layer : Layer → Bool
has_name_layer (Raw-F.Node Param parts) = last_is_name parts
has_name_layer _ = true

-- a parameter has a name; a sign between parameters needs none
abbrev pub has_name : Raw → Bool
has_name raw = has_name_layer (out-Raw raw)

-- Each parameter has a name.
abbrev pub have_names : List Raw → Bool
have_names [] = true
have_names (part ∷ rest) = has_name part && have_names rest
