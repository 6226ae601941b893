-- Where a list of items ends in a jump, read from its last item.
use Rattle.std.proofs.Common.{◌≡◌, ◌<◌, ◌≤◌, ◌-◌, ℕ, zero, suc, List, [], ◌∷◌, Some, None, Bool, true, false, ◌||◌, length, get_or, take, refl, sym, ap, ◌∙◌, arith}
use Rattle.c_parse.specs.declared.raw.Raw.{Raw, out-Raw}
use Rattle.c_parse.specs.declared.raw.Raw.TheOpen.{Raw-F}
use Rattle.c_parse.specs.declared.raw.RawRule.TheVariants.{Statement, Item}
use Rattle.c_parse.specs.Endings.{is_jump, but_last, block_ends, statement_ends, item_ends, last_ends, ends_through, is_name, last_is_name}
use Rattle.c_parse.specs.Turning.{first_in_layer, is_item, is_statement, first_of_statement, first_of_item}

pub last_name : (parts : List Raw) (d : Raw) → 1 ≤ length parts → last_is_name parts ≡ is_name (out-Raw (get_or parts (length parts - 1) d))
last_name [] d le = absurd (omega arith)
last_name (last ∷ []) d le = refl
last_name (first ∷ second ∷ rest) d le =
    let e : length (first ∷ second ∷ rest) - 1 ≡ suc (length (second ∷ rest) - 1) = omega arith in
    rw e (last_name (second ∷ rest) d (omega arith))

last_item : (test : List Raw → Bool) (items : List Raw) (d : Raw) → 1 ≤ length items → last_ends test items ≡ item_ends test (out-Raw (get_or items (length items - 1) d))
last_item test [] d le = absurd (omega arith)
last_item test (last ∷ []) d le = refl
last_item test (first ∷ second ∷ rest) d le =
    let e : length (first ∷ second ∷ rest) - 1 ≡ suc (length (second ∷ rest) - 1) = omega arith in
    rw e (last_item test (second ∷ rest) d (omega arith))

pub all_but_last : (parts : List Raw) → 1 ≤ length parts → take (length parts - 1) parts ≡ but_last parts
all_but_last [] le = absurd (omega arith)
all_but_last (last ∷ []) le = refl
all_but_last (first ∷ second ∷ rest) le =
    let e : length (first ∷ second ∷ rest) - 1 ≡ suc (length (second ∷ rest) - 1) = omega arith in
    rw e (ap (λ parts. first ∷ parts) (all_but_last (second ∷ rest) (omega arith)))

statement_layer : (test : List Raw → Bool) (layer : Raw-F Raw) (first : Raw) → Some first ≡ first_in_layer is_statement layer
    → statement_ends test layer ≡ (is_jump first || block_ends test (out-Raw first))
statement_layer test (Raw-F.Node Statement (begins ∷ _)) first e = let same : begins ≡ first = cc in ap (λ x. is_jump x || block_ends test (out-Raw x)) same
statement_layer test _ first e = cc

item_layer : (test : List Raw → Bool) (layer : Raw-F Raw) (first : Raw) → Some first ≡ first_of_statement (first_in_layer is_item layer)
    → item_ends test layer ≡ (is_jump first || block_ends test (out-Raw first))
item_layer test (Raw-F.Node Item (statement ∷ _)) first e = statement_layer test (out-Raw statement) first e
item_layer test _ first e = cc

statement_without : (test : List Raw → Bool) (layer : Raw-F Raw) → None ≡ first_in_layer is_statement layer → statement_ends test layer ≡ false
statement_without test (Raw-F.Node Statement (first ∷ _)) e = cc
statement_without test _ e = refl

item_without : (test : List Raw → Bool) (layer : Raw-F Raw) → None ≡ first_of_statement (first_in_layer is_item layer) → item_ends test layer ≡ false
item_without test (Raw-F.Node Item (statement ∷ _)) e = statement_without test (out-Raw statement) e
item_without test _ e = refl

-- what is asked of the items in a block
abbrev test_in : ℕ → List Raw → Bool
test_in zero inner = false
test_in (suc blocks) inner = ends_through blocks inner

opened : (blocks : ℕ) (items : List Raw) → ends_through blocks items ≡ last_ends (λ inner. test_in blocks inner) items
opened zero items = refl
opened (suc blocks) items = refl

-- The first part of the last item tells.
told_by : (blocks : ℕ) (items : List Raw) (d first : Raw) → 1 ≤ length items → Some first ≡ first_of_item (get_or items (length items - 1) d)
    → ends_through blocks items ≡ (is_jump first || block_ends (λ inner. test_in blocks inner) (out-Raw first))
told_by blocks items d first le e =
    opened blocks items ∙ last_item (λ inner. test_in blocks inner) items d le ∙ item_layer (λ inner. test_in blocks inner) (out-Raw (get_or items (length items - 1) d)) first e

pub ends_deeper : (blocks : ℕ) (items : List Raw) (d first : Raw) (parts : List Raw) (result : Bool) → 0 < blocks → 1 ≤ length items → Some first ≡ first_of_item (get_or items (length items - 1) d)
    → is_jump first ≡ false → ((test : List Raw → Bool) → block_ends test (out-Raw first) ≡ test (but_last parts)) → result ≡ ends_through (blocks - 1) (but_last parts) → result ≡ ends_through blocks items
ends_deeper zero items d first parts result some le e jump splits is = absurd (omega arith)
ends_deeper (suc blocks) items d first parts result some le e jump splits is =
    let one_less : suc blocks - 1 ≡ blocks = omega arith in
    is ∙ ap (λ k. ends_through k (but_last parts)) one_less ∙ sym (splits (λ x. ends_through blocks x)) ∙ ap (λ b. b || block_ends (λ x. ends_through blocks x) (out-Raw first)) (sym jump)
    ∙ sym (told_by (suc blocks) items d first le e)

pub ends_too_deep : (blocks : ℕ) (items : List Raw) (d first : Raw) (parts : List Raw) → blocks ≤ 0 → 1 ≤ length items → Some first ≡ first_of_item (get_or items (length items - 1) d)
    → is_jump first ≡ false → ((test : List Raw → Bool) → block_ends test (out-Raw first) ≡ test (but_last parts)) → false ≡ ends_through blocks items
ends_too_deep zero items d first parts none le e jump splits =
    sym (splits (λ x. false)) ∙ ap (λ b. b || block_ends (λ x. false) (out-Raw first)) (sym jump) ∙ sym (told_by zero items d first le e)
ends_too_deep (suc blocks) items d first parts none le e jump splits = absurd (omega arith)

or_false : (a b : Bool) → b ≡ false → a ≡ (a || b)
or_false true b e = refl
or_false false b e = sym e

pub ends_or_not : (blocks : ℕ) (items : List Raw) (d first : Raw) (result : Bool) → 1 ≤ length items → Some first ≡ first_of_item (get_or items (length items - 1) d)
    → ((test : List Raw → Bool) → block_ends test (out-Raw first) ≡ false) → result ≡ is_jump first → result ≡ ends_through blocks items
ends_or_not blocks items d first result le e none is =
    is ∙ or_false (is_jump first) _ (none (λ inner. test_in blocks inner)) ∙ sym (told_by blocks items d first le e)

pub ends_not : (blocks : ℕ) (items : List Raw) (d : Raw) → 1 ≤ length items → None ≡ first_of_item (get_or items (length items - 1) d) → false ≡ ends_through blocks items
ends_not blocks items d le e =
    sym (opened blocks items ∙ last_item (λ inner. test_in blocks inner) items d le ∙ item_without (λ inner. test_in blocks inner) (out-Raw (get_or items (length items - 1) d)) e)
