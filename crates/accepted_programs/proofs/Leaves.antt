-- Tokens and nodes of a tree: what is judged of them.
use Rattle.std.proofs.Common.{◌≡◌, refl, sym, ap, subst, ◌∙◌, ℕ, Bool, true, false, Some, List, [], map}
use Rattle.std.specs.Prelude.{codes, ◌||◌}
use Rattle.std.specs.Str.{bytes_eq}
use Rattle.base_io.specs.declared.place.Place.{Place}
use Rattle.c_lex.specs.declared.token.TokenKind.{TokenKind}
use Rattle.c_lex.specs.declared.token.TokenKind.TheVariants as token
use Rattle.c_parse.specs.declared.class.Class.{Class}
use Rattle.c_parse.specs.declared.class.Class.TheVariants as class
use Rattle.c_parse.specs.declared.raw.RawRule.{RawRule}
use Rattle.c_parse.specs.declared.raw.RawRule.TheVariants as rules
use Rattle.c_parse.specs.declared.raw.Raw.{Raw, out-Raw}
use Rattle.c_parse.specs.declared.raw.Raw.TheOpen.{Raw-F}
use Rattle.c_parse.specs.declared.raw.Raw.TheVariants.{Node, outs-Leaf, outs-Node}
use Rattle.c_parse.specs.Endings.{is_jump, is_jump_layer, block_ends, item_ends}
use Rattle.c_parse.specs.Words.{Word}
use Rattle.c_typing.specs.Judged.{Judged, spells, is_token}
use Rattle.c_typing.specs.Programs.{judged, judged_by}
use Rattle.c_typing.proofs.Judging.{judged_node, judged_leaf}
use Rattle.accepted_programs.specs.Texts.{IsWord}
use Rattle.accepted_programs.proofs.Tokens.{IsToken, spelling, name_kind, text_is}
use Rattle.accepted_programs.proofs.Grouping.{token_of}

-- ---- tokens

-- the tree is a token of this class
pub record IsLeaf (c : Class) (raw : Raw) : Type 0 where
  pub word : Word
  pub is : IsWord word
  pub leaf : raw ≡ word.leaf
  pub class : word.class ≡ c

pub leaf_token : (c : Class) (raw : Raw) → IsLeaf c raw → IsToken c (judged raw)
leaf_token c raw h =
    subst (λ r. IsToken c (judged r)) (sym h.leaf) (subst (λ d. IsToken d (judged h.word.leaf)) h.class (token_of h.word h.is))

pub leaf_is : (c : Class) (raw : Raw) → IsLeaf c raw → is_token (judged raw) ≡ true
leaf_is c raw h = (leaf_token c raw h).token

pub open_text : (raw : Raw) → IsLeaf class.Open raw → spells (codes "(") (judged raw) ≡ true
open_text raw h = spelling class.Open (judged raw) (λ e. cc) (λ e. cc) (leaf_token class.Open raw h)

pub index_text : (raw : Raw) → IsLeaf class.OpenIndex raw → spells (codes "[") (judged raw) ≡ true
index_text raw h = spelling class.OpenIndex (judged raw) (λ e. cc) (λ e. cc) (leaf_token class.OpenIndex raw h)

pub const_text : (raw : Raw) → IsLeaf class.Const raw → spells (codes "const") (judged raw) ≡ true
const_text raw h = spelling class.Const (judged raw) (λ e. cc) (λ e. cc) (leaf_token class.Const raw h)

pub static_text : (raw : Raw) → IsLeaf class.Static raw → spells (codes "static") (judged raw) ≡ true
static_text raw h = spelling class.Static (judged raw) (λ e. cc) (λ e. cc) (leaf_token class.Static raw h)

pub void_text : (raw : Raw) → IsLeaf class.Void raw → spells (codes "void") (judged raw) ≡ true
void_text raw h = spelling class.Void (judged raw) (λ e. cc) (λ e. cc) (leaf_token class.Void raw h)

-- a token spelled so isn't spelled otherwise
pub not_text : (j : Judged) (text other : List ℕ) → bytes_eq j.text text ≡ true → bytes_eq text other ≡ false → spells other j ≡ false
not_text j text other h k = ap (λ t. bytes_eq t other) (text_is j text h) ∙ k

pub name_open : (raw : Raw) → IsLeaf class.Name raw → spells (codes "(") (judged raw) ≡ false
name_open raw h = (name_kind (judged raw) (leaf_token class.Name raw h)).1

pub name_is : (raw : Raw) → IsLeaf class.Name raw → (judged raw).kind ≡ token.Name
name_is raw h = (name_kind (judged raw) (leaf_token class.Name raw h)).0

-- what stands at the top of a token
pub leaf_layer : (c : Class) (raw : Raw) (h : IsLeaf c raw) → out-Raw raw ≡ Raw-F.Leaf h.is.kind h.is.bytes h.is.place
leaf_layer c raw h = ap out-Raw (h.leaf ∙ h.is.leaf) ∙ outs-Leaf h.is.kind h.is.bytes h.is.place

pub leaf_text : (c : Class) (raw : Raw) (h : IsLeaf c raw) → (judged raw).text ≡ h.is.bytes
leaf_text c raw h = ap (λ z. (judged z).text) (h.leaf ∙ h.is.leaf) ∙ ap (λ (j : Judged). j.text) (judged_leaf h.is.kind h.is.bytes h.is.place)

abbrev pub jumps : List ℕ → Bool
jumps text = bytes_eq text (codes "break") || (bytes_eq text (codes "continue") || bytes_eq text (codes "return"))

jump_layer : (kind : TokenKind) (text : List ℕ) (place : Place) → jumps text ≡ false → is_jump_layer (Raw-F.Leaf kind text place) ≡ false
jump_layer token.Keyword text place h = h
jump_layer token.Name text place h = refl
jump_layer token.Sign text place h = refl
jump_layer (token.Number n u) text place h = refl

-- a token of another text is no jump
pub not_jump : (c : Class) (raw : Raw) (text : List ℕ) → IsLeaf c raw → (judged raw).text ≡ text → jumps text ≡ false → is_jump raw ≡ false
not_jump c raw text h is unlike =
    ap is_jump_layer (leaf_layer c raw h)
    ∙ jump_layer h.is.kind h.is.bytes h.is.place (subst (λ t. jumps t ≡ false) (sym is ∙ leaf_text c raw h) unlike)

-- a token is no block
pub leaf_block : (c : Class) (raw : Raw) (f : List Raw → Bool) → IsLeaf c raw → block_ends f (out-Raw raw) ≡ false
leaf_block c raw f h = ap (block_ends f) (leaf_layer c raw h)

pub leaf_item : (c : Class) (raw : Raw) (f : List Raw → Bool) → IsLeaf c raw → item_ends f (out-Raw raw) ≡ false
leaf_item c raw f h = ap (item_ends f) (leaf_layer c raw h)

-- ---- nodes

-- the tree is a node of this rule
pub record IsNode (r : RawRule) (raw : Raw) : Type 0 where
  pub parts : List Raw
  pub is : raw ≡ Node r parts

pub a_node : (r : RawRule) (parts : List Raw) → IsNode r (Node r parts)
a_node r parts = record { parts = parts; is = refl }

pub on_node : (P : Judged → Type 0) (r : RawRule) (parts : List Raw) → P (judged_by (Raw-F.Node r (map judged parts))) → P (judged (Node r parts))
on_node P r parts h = subst P (sym (judged_node r parts)) h

pub node_rule : (r : RawRule) (raw : Raw) → IsNode r raw → (judged raw).rule ≡ Some r
node_rule r raw h = ap (λ z. (judged z).rule) h.is ∙ ap (λ (j : Judged). j.rule) (judged_node r h.parts)

pub node_is : (r : RawRule) (raw : Raw) → IsNode r raw → is_token (judged raw) ≡ false
node_is r raw h = ap (λ z. is_token (judged z)) h.is ∙ ap is_token (judged_node r h.parts)

pub type_text : (raw : Raw) → IsNode rules.TypeName raw → (judged raw).text ≡ []
type_text raw h = ap (λ z. (judged z).text) h.is ∙ ap (λ (j : Judged). j.text) (judged_node rules.TypeName h.parts)

pub type_other : (raw : Raw) (text : List ℕ) → IsNode rules.TypeName raw → bytes_eq [] text ≡ false → spells text (judged raw) ≡ false
type_other raw text h k = ap (λ t. bytes_eq t text) (type_text raw h) ∙ k

pub node_layer : (r : RawRule) (raw : Raw) (h : IsNode r raw) → out-Raw raw ≡ Raw-F.Node r h.parts
node_layer r raw h = ap out-Raw h.is ∙ outs-Node r h.parts
