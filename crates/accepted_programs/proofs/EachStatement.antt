-- The alternatives of declarations and statements, form by form.
use Rattle.std.proofs.Common.{◌≡◌, refl, sym, ap, subst, ◌∙◌, append-nil, ℕ, zero, suc, Bool, true, false, Option, List, [], ◌∷◌, ◌++◌, map}
use Rattle.std.specs.Prelude.{codes, ◌||◌, ◌&&◌, not, if◌then◌else◌}
use Rattle.std.specs.Str.{bytes_eq}
use Rattle.base_io.specs.declared.place.Place.{Place}
use Rattle.c_tree.specs.declared.tree.StmtKind.{StmtKind}
use Rattle.c_tree.specs.declared.tree.StmtKind.TheVariants as stmt
use Rattle.c_parse.specs.declared.class.Class.{Class}
use Rattle.c_parse.specs.declared.class.Class.TheVariants as class
use Rattle.c_parse.specs.declared.raw.RawRule.TheVariants as rules
use Rattle.c_parse.specs.declared.raw.Raw.{Raw, out-Raw}
use Rattle.c_parse.specs.declared.raw.Raw.TheVariants.{Node, outs-Node}
use Rattle.c_parse.specs.Endings.{is_jump, is_jump_layer, but_last, ends_in_jump, block_ends, statement_ends, item_ends, last_ends}
use Rattle.c_parse.specs.declared.form.Form.TheVariants as form
use Rattle.c_parse.specs.Grammar as grammar
use Rattle.c_parse.specs.declared.form.Within.{Within}
use Rattle.c_parse.specs.declared.form.Within.TheVariants.{Body as in_body, Switch as in_switch, Loop as in_loop}
use Rattle.c_typing.specs.Judged.{Judged, spells, is_token}
use Rattle.c_typing.specs.Parts.{Part, ◌>>=◌, either, pure}
use Rattle.c_typing.specs.Statements as rule
use Rattle.c_typing.specs.Functions as function
use Rattle.c_typing.specs.Programs.{judged}
use Rattle.sound_programs.specs.Scoped as scoped
use Rattle.sound_programs.specs.Scoped.{Stand}
use Rattle.accepted_programs.proofs.Walk.{World}
use Rattle.accepted_programs.proofs.Doing.{has_if, has_true, has_false}
use Rattle.accepted_programs.proofs.Declaring.{IsDeclare, IsDeclaration, scalar_declared, array_declared, constant_has, plain_has}
use Rattle.accepted_programs.proofs.Stating.{GoodKind, IsStmt, IsKind, stmt_has, empty_kind, break_kind, continue_kind, act_kind, return_nothing, return_value, if_kind, if_else_kind, while_kind, do_kind}
use Rattle.accepted_programs.proofs.Looping.{IsItem, AreItems, items_has, item_of_declaration, item_of_stmt, block_kind}
use Rattle.accepted_programs.proofs.Fors.{IsStep, IsTest, IsFor, for_kind}
use Rattle.accepted_programs.proofs.Switching.{IsLabel, IsGroup, AreLabelled, default_label, case_label, group_has}
use Rattle.accepted_programs.proofs.SwitchKinds.{AreGroups, switch_kind}
use Rattle.accepted_programs.proofs.Filing.{IsGlobal, global_name, global_scalar, global_array}
use Rattle.accepted_programs.proofs.Tokens.{spelling, text_is}
use Rattle.accepted_programs.proofs.Leaves.{IsLeaf, IsNode, leaf_token, leaf_is, leaf_block, leaf_item, not_jump, jumps, const_text, type_other, a_node, on_node, node_rule, node_is, node_layer}
use Rattle.accepted_programs.proofs.Forms.{Cases, Case, Each, stand, ender, through_is, HasItems, IsStated, IsBlocked, IsItemed, AreItemed, IsLabelled, IsActed}

-- ---- declarations

pub no_defined : (type d : Judged) (js : List Judged) → is_token d ≡ false → function.defined_by_function (type ∷ d ∷ js) ≡ []
no_defined type d [] h = refl
no_defined type d (bracket ∷ []) h = refl
no_defined type d (bracket ∷ params ∷ []) h = refl
no_defined type d (bracket ∷ params ∷ close ∷ []) h = refl
no_defined type d (bracket ∷ params ∷ close ∷ ending ∷ rest) h = ap (λ b. if b && not (is_token ending) && spells (codes "(") bracket then d.text ∷ [] else []) h

module _ (w : World) where
  pub declaration_cases : Cases w form.Declaration
  declaration_cases next = (
    λ c isc type ist raws h sign iss ok. (
      a_node rules.Declaration (c ∷ type ∷ (raws ++ sign ∷ [])),
      on_node (λ (j : Judged). IsDeclaration w j.declaration) rules.Declaration (c ∷ type ∷ (raws ++ sign ∷ []))
          (constant_has w (judged c) (judged type) (map judged (raws ++ sign ∷ [])) (const_text c isc) (h sign).declared),
    ),
    (
      λ type ist raws h sign iss ok. (
        a_node rules.Declaration (type ∷ (raws ++ sign ∷ [])),
        on_node (λ (j : Judged). IsDeclaration w j.declaration) rules.Declaration (type ∷ (raws ++ sign ∷ []))
            (plain_has w (judged type) (map judged (raws ++ sign ∷ [])) (type_other type (codes "const") ist refl) (h sign).declared),
      ),
      tt,
    ),
  )

  pub declarators_cases : Cases w form.Declarators
  declarators_cases next = (λ d isd raws h ok sign. h (judged d) isd sign, tt)

  pub more_declarators_cases : Cases w form.MoreDeclarators
  more_declarators_cases next = (
    λ ok d isd sign. record { declared = (isd.local, tt); globals = (isd.global, tt); no_function = λ type. refl; defines = λ type. refl },
    (
      λ comma isc other iso raws h ok d isd sign.
          let r = h (judged other) iso sign in
          record {
            declared = (isd.local, r.declared);
            globals = (isd.global, r.globals);
            no_function = λ type. ap (λ b. b && spells (codes "(") (judged comma)) isd.noded;
            defines = λ type. no_defined type d (judged comma ∷ judged other ∷ map judged (raws ++ sign ∷ [])) isd.noded;
          },
      tt,
    ),
  )

  pub declarator_cases : Cases w form.Declarator
  declarator_cases next = (
    λ name isn raws h ok. record {
      noded = node_is rules.Declarator (Node rules.Declarator (name ∷ raws)) (a_node rules.Declarator (name ∷ raws));
      local = on_node (λ (j : Judged). IsDeclare w j.declare) rules.Declarator (name ∷ raws) (h (judged name)).0;
      global = on_node (λ (j : Judged). IsGlobal w j.declare_global) rules.Declarator (name ∷ raws) (h (judged name)).1;
    },
    tt,
  )

  pub initial_cases : Cases w form.Initial
  initial_cases next = (
    λ ok name. (scalar_declared w name [] tt, global_name w name),
    (
      λ equals ise a isa ok name. (scalar_declared w name (judged equals ∷ judged a ∷ []) isa.1, global_scalar w name (judged equals) (judged a) isa.1),
      (
        λ bracket isb a isa close isc raws h ok name.
            (array_declared w name (judged bracket) (judged a) (judged close) (map judged raws) isa.1 h, global_array w name (judged bracket) (judged a) (judged close) (map judged raws) isa.1 h),
        tt,
      ),
    ),
  )

  pub list_initial_cases : Cases w form.ListInitial
  list_initial_cases next = (λ ok. tt, (λ equals ise brace isb a isa raws h close isc ok e. h (judged a) isa.1 close e, tt))

  pub more_values_cases : Cases w form.MoreValues
  more_values_cases next = (λ ok x isx close e. (isx, tt), (λ comma isc raws h ok x isx close e. (isx, h close e), tt))

  pub next_value_cases : Cases w form.NextValue
  next_value_cases next = (λ ok close e. tt, (λ a isa raws h ok close e. h (judged a) isa.1 close e, tt))

-- ---- items, and whether the last of them ends a group

false_true : (b : Bool) → b ≡ false → b ≡ true → ⊥
false_true b h k = cc

second : (a b : Bool) → a ≡ false → (a || b) ≡ true → b ≡ true
second true b h k = cc
second false b h k = k

but_last_is : (raws : List Raw) (last : Raw) → but_last (raws ++ last ∷ []) ≡ raws
but_last_is [] last = refl
but_last_is (a ∷ []) last = refl
but_last_is (a ∷ b ∷ raws) last = ap (λ rest. a ∷ rest) (but_last_is (b ∷ raws) last)

-- what is no item ends nothing
last_behind : (f : List Raw → Bool) (raw : Raw) (raws : List Raw) → item_ends f (out-Raw raw) ≡ false → last_ends f (raw ∷ raws) ≡ last_ends f raws
last_behind f raw [] h = h
last_behind f raw (other ∷ raws) h = refl

module _ (w : World) (at : Stand) where
  plain_items : (raws tail : List Raw) → AreItemed w at raws → ((b : Bool) → AreItems w at b b (map judged tail)) → AreItems w at false false (map judged (raws ++ tail))
  plain_items [] tail h t = t false
  plain_items (raw ∷ raws) tail (h, hs) t = AreItems.item_first false false false (judged raw) (map judged (raws ++ tail)) (node_is rules.Item raw h.node) h.plain (plain_items raws tail hs t)

  ended_items : (b : Bool) (n : ℕ) (raws tail : List Raw) → AreItemed w at raws → ((b : Bool) → AreItems w at b b (map judged tail)) → last_ends (ender n) raws ≡ true → AreItems w at b true (map judged (raws ++ tail))
  ended_items b n [] tail h t e = absurd (false_true false refl e)
  ended_items b n (raw ∷ []) tail (h, hs) t e = AreItems.item_first b true true (judged raw) (map judged tail) (node_is rules.Item raw h.node) (h.ends n e) (t true)
  ended_items b n (raw ∷ other ∷ raws) tail (h, hs) t e =
      AreItems.item_first b false true (judged raw) (map judged (other ∷ (raws ++ tail))) (node_is rules.Item raw h.node) h.plain (ended_items false n (other ∷ raws) tail hs t e)

  closing : (c : Class) (close : Raw) → IsLeaf c close → (b : Bool) → AreItems w at b b (judged close ∷ [])
  closing c close is b = AreItems.token_behind b (judged close) [] (leaf_is c close is)

  ended_block : (n : ℕ) (o : Raw) (raws : List Raw) (close : Raw) → IsLeaf class.OpenBrace o → IsLeaf class.CloseBrace close → AreItemed w at raws → ender n (o ∷ raws) ≡ true → AreItems w at false true (map judged (raws ++ close ∷ []))
  ended_block zero o raws close iso isc h e = absurd (false_true false refl e)
  ended_block (suc n) o raws close iso isc h e =
      ended_items false n raws (close ∷ []) h (closing class.CloseBrace close isc) (sym (last_behind (ender n) o raws (leaf_item class.OpenBrace o (ender n) iso)) ∙ (sym (through_is n (o ∷ raws)) ∙ e))

  blocked : (o : Raw) (raws : List Raw) (close : Raw) → IsLeaf class.OpenBrace o → IsLeaf class.CloseBrace close → AreItemed w at raws → IsBlocked w at (Node rules.Block (o ∷ (raws ++ close ∷ [])))
  blocked o raws close iso isc h = record {
    node = a_node rules.Block (o ∷ (raws ++ close ∷ []));
    plain = on_node (HasItems w at false) rules.Block (o ∷ (raws ++ close ∷ [])) (items_has w at false (map judged (raws ++ close ∷ [])) (plain_items raws (close ∷ []) h (closing class.CloseBrace close isc)));
    ends = λ n e. on_node (HasItems w at true) rules.Block (o ∷ (raws ++ close ∷ [])) (items_has w at true (map judged (raws ++ close ∷ []))
        (ended_block n o raws close iso isc h (sym (ap (ender n) (but_last_is (o ∷ raws) close)) ∙ (sym (ap (block_ends (ender n)) (outs-Node rules.Block (o ∷ (raws ++ close ∷ [])))) ∙ e))));
  }

  item_declares : (d : Raw) → IsNode rules.Declaration d → IsDeclaration w (judged d).declaration → IsItemed w at (Node rules.Item (d ∷ []))
  item_declares d is h = record {
    node = a_node rules.Item (d ∷ []);
    plain = on_node (λ (j : Judged). IsItem w at false j.item) rules.Item (d ∷ []) (item_of_declaration w at (judged d) (ap rule.is_declaration (node_rule rules.Declaration d is)) h);
    ends = λ n e. absurd (false_true _ (ap (item_ends (ender n)) (outs-Node rules.Item (d ∷ [])) ∙ ap (statement_ends (ender n)) (node_layer rules.Declaration d is)) e);
  }

  item_acts : (s : Raw) → IsStated w at s → IsItemed w at (Node rules.Item (s ∷ []))
  item_acts s h =
      let unlike : rule.is_declaration (judged s).rule ≡ false = ap rule.is_declaration (node_rule rules.Statement s h.node) in
      record {
        node = a_node rules.Item (s ∷ []);
        plain = on_node (λ (j : Judged). IsItem w at false j.item) rules.Item (s ∷ []) (item_of_stmt w at false (judged s) unlike h.plain);
        ends = λ n e. on_node (λ (j : Judged). IsItem w at true j.item) rules.Item (s ∷ []) (item_of_stmt w at true (judged s) unlike (h.ends n (sym (ap (item_ends (ender n)) (outs-Node rules.Item (s ∷ []))) ∙ e)));
      }

-- ---- statements

-- behind a word
abbrev worded : List ℕ → Place → List Judged → Part StmtKind
worded text place rest =
    either (bytes_eq text (codes "break")) (pure stmt.Break)
    (either (bytes_eq text (codes "continue")) (pure stmt.Continue)
    (either (bytes_eq text (codes "return")) (rule.return_by place rest)
    (either (bytes_eq text (codes "if")) (rule.if_by rest) (rule.loop_kind text rest))))

module _ (w : World) (at : Stand) where
  weaken : (p : Part StmtKind) → IsKind w at true p → IsKind w at false p
  weaken p h = has_if w (λ e. Unit {0}) (λ e. Unit {0}) p (GoodKind w at true) (GoodKind w at false) (λ e q. q)
      (λ e a e' n q core core' g. record { layer = g.layer; out = g.out; stays = g.stays; fits = g.fits; calls = g.calls; scoped_ = g.scoped_; ends = λ h. absurd (false_true false refl h); locals_ = g.locals_; nodes = g.nodes }) h

  on_stmt : (b : Bool) (parts : List Raw) → IsKind w at b (rule.stmt_kind (map judged parts)) → IsStmt w at b (judged (Node rules.Statement parts)).stmt
  on_stmt b parts h = on_node (λ (j : Judged). IsStmt w at b j.stmt) rules.Statement parts (stmt_has w at b _ (map judged parts) h)

  plain_stated : (first : Raw) (rest : List Raw) → is_jump first ≡ false → ((f : List Raw → Bool) → block_ends f (out-Raw first) ≡ false) → IsKind w at false (rule.stmt_kind (judged first ∷ map judged rest)) → IsStated w at (Node rules.Statement (first ∷ rest))
  plain_stated first rest unlike none h = record {
    node = a_node rules.Statement (first ∷ rest);
    plain = on_stmt false (first ∷ rest) h;
    ends = λ n e. absurd (false_true _ (none (ender n)) (second (is_jump first) (block_ends (ender n) (out-Raw first)) unlike (sym (ap (statement_ends (ender n)) (outs-Node rules.Statement (first ∷ rest))) ∙ e)));
  }

  jump_stated : (parts : List Raw) → IsKind w at true (rule.stmt_kind (map judged parts)) → IsStated w at (Node rules.Statement parts)
  jump_stated parts h = record { node = a_node rules.Statement parts; plain = on_stmt false parts (weaken (rule.stmt_kind (map judged parts)) h); ends = λ n e. on_stmt true parts h }

  word_stmt : (b : Bool) (c : Class) (first : Raw) (text : List ℕ) (rest : List Judged) → IsLeaf c first → (judged first).text ≡ text → IsKind w at b (worded text (judged first).place rest) → IsKind w at b (rule.stmt_kind (judged first ∷ rest))
  word_stmt b c first text rest is same h =
      has_true w (λ e. Unit {0}) (is_token (judged first)) (rule.word_kind (judged first) rest) (rule.node_kind (judged first)) (GoodKind w at b) (leaf_is c first is)
      (subst (λ t. IsKind w at b (worded t (judged first).place rest)) (sym same) h)

  -- a statement that begins with a word and is no jump
  word_stated : (c : Class) (first : Raw) (text : List ℕ) (rest : List Raw) → IsLeaf c first → (judged first).text ≡ text → jumps text ≡ false → IsKind w at false (worded text (judged first).place (map judged rest)) → IsStated w at (Node rules.Statement (first ∷ rest))
  word_stated c first text rest is same unlike h = plain_stated first rest (not_jump c first text is same unlike) (λ f. leaf_block c first f is) (word_stmt false c first text (map judged rest) is same h)

  word_jumps : (c : Class) (first : Raw) (text : List ℕ) (rest : List Raw) → IsLeaf c first → (judged first).text ≡ text → IsKind w at true (worded text (judged first).place (map judged rest)) → IsStated w at (Node rules.Statement (first ∷ rest))
  word_jumps c first text rest is same h = jump_stated (first ∷ rest) (word_stmt true c first text (map judged rest) is same h)

  block_stmt : (b : Bool) (block : Raw) → IsNode rules.Block block → HasItems w at b (judged block) → IsKind w at b (rule.stmt_kind (judged block ∷ []))
  block_stmt b block is h =
      has_false w (λ e. Unit {0}) (is_token (judged block)) (rule.word_kind (judged block) []) (rule.node_kind (judged block)) (GoodKind w at b) (node_is rules.Block block is)
      (block_kind w at b (judged block) (ap rule.is_block (node_rule rules.Block block is)) h)

  block_stated : (block : Raw) → IsBlocked w at block → IsStated w at (Node rules.Statement (block ∷ []))
  block_stated block h = record {
    node = a_node rules.Statement (block ∷ []);
    plain = on_stmt false (block ∷ []) (block_stmt false block h.node h.plain);
    ends = λ n e. on_stmt true (block ∷ []) (block_stmt true block h.node (h.ends n (second (is_jump block) (block_ends (ender n) (out-Raw block)) (ap is_jump_layer (node_layer rules.Block block h.node))
        (sym (ap (statement_ends (ender n)) (outs-Node rules.Statement (block ∷ []))) ∙ e))));
  }

  act_stated : (a sign : Raw) → IsActed w a → IsStated w at (Node rules.Statement (a ∷ sign ∷ []))
  act_stated a sign h =
      plain_stated a (sign ∷ []) (ap is_jump_layer (node_layer rules.Action a h.node)) (λ f. ap (block_ends f) (node_layer rules.Action a h.node))
      (has_false w (λ e. Unit {0}) (is_token (judged a)) (rule.word_kind (judged a) (judged sign ∷ [])) (rule.node_kind (judged a)) (GoodKind w at false) (node_is rules.Action a h.node)
      (has_false w (λ e. Unit {0}) (rule.is_block (judged a).rule) (rule.scoped (judged a).items >>= (λ items. pure (stmt.Block items))) (rule.act_kind (judged a)) (GoodKind w at false) (ap rule.is_block (node_rule rules.Action a h.node)) (act_kind w at (judged a) h.act)))

semicolon_text : (raw : Raw) → IsLeaf class.Semicolon raw → (judged raw).text ≡ codes ";"
semicolon_text raw h = text_is (judged raw) (codes ";") (spelling class.Semicolon (judged raw) (λ e. cc) (λ e. cc) (leaf_token class.Semicolon raw h))

break_text : (raw : Raw) → IsLeaf class.Break raw → (judged raw).text ≡ codes "break"
break_text raw h = text_is (judged raw) (codes "break") (spelling class.Break (judged raw) (λ e. cc) (λ e. cc) (leaf_token class.Break raw h))

continue_text : (raw : Raw) → IsLeaf class.Continue raw → (judged raw).text ≡ codes "continue"
continue_text raw h = text_is (judged raw) (codes "continue") (spelling class.Continue (judged raw) (λ e. cc) (λ e. cc) (leaf_token class.Continue raw h))

return_text : (raw : Raw) → IsLeaf class.Return raw → (judged raw).text ≡ codes "return"
return_text raw h = text_is (judged raw) (codes "return") (spelling class.Return (judged raw) (λ e. cc) (λ e. cc) (leaf_token class.Return raw h))

if_text : (raw : Raw) → IsLeaf class.If raw → (judged raw).text ≡ codes "if"
if_text raw h = text_is (judged raw) (codes "if") (spelling class.If (judged raw) (λ e. cc) (λ e. cc) (leaf_token class.If raw h))

while_text : (raw : Raw) → IsLeaf class.While raw → (judged raw).text ≡ codes "while"
while_text raw h = text_is (judged raw) (codes "while") (spelling class.While (judged raw) (λ e. cc) (λ e. cc) (leaf_token class.While raw h))

do_text : (raw : Raw) → IsLeaf class.Do raw → (judged raw).text ≡ codes "do"
do_text raw h = text_is (judged raw) (codes "do") (spelling class.Do (judged raw) (λ e. cc) (λ e. cc) (leaf_token class.Do raw h))

for_text : (raw : Raw) → IsLeaf class.For raw → (judged raw).text ≡ codes "for"
for_text raw h = text_is (judged raw) (codes "for") (spelling class.For (judged raw) (λ e. cc) (λ e. cc) (leaf_token class.For raw h))

switch_text : (raw : Raw) → IsLeaf class.Switch raw → (judged raw).text ≡ codes "switch"
switch_text raw h = text_is (judged raw) (codes "switch") (spelling class.Switch (judged raw) (λ e. cc) (λ e. cc) (leaf_token class.Switch raw h))

stand_switched : (within : Within) → stand (grammar.switched within) ≡ scoped.in_switch (stand within)
stand_switched in_body = refl
stand_switched in_switch = refl
stand_switched in_loop = refl

module _ (w : World) where
  pub block_cases : (within : Within) → Cases w (form.Block within)
  block_cases within next = (λ o iso raws h close isc ok. blocked w (stand within) o raws close iso isc h, tt)

  pub items_cases : (within : Within) → Cases w (form.Items within)
  items_cases within next = (λ ok. tt, (λ i isi raws h ok. (isi, h), tt))

  pub item_cases : (within : Within) → Cases w (form.Item within)
  item_cases within next = (λ d isd ok. item_declares w (stand within) d isd.0 isd.1, (λ s iss ok. item_acts w (stand within) s iss, tt))

  jumps_each : (within : Within) (next : Option Class) → Each (Case w (form.Statement within) next) (grammar.jumps within)
  jumps_each in_body next = tt
  jumps_each in_switch next = (λ word isw sign iss ok. word_jumps w (stand in_switch) class.Break word (codes "break") (sign ∷ []) isw (break_text word isw) (break_kind w (stand in_switch) refl), tt)
  jumps_each in_loop next = (
    λ word isw sign iss ok. word_jumps w (stand in_loop) class.Break word (codes "break") (sign ∷ []) isw (break_text word isw) (break_kind w (stand in_loop) refl),
    (λ word isw sign iss ok. word_jumps w (stand in_loop) class.Continue word (codes "continue") (sign ∷ []) isw (continue_text word isw) (continue_kind w (stand in_loop) refl), tt),
  )

  pub statement_cases : (within : Within) → Cases w (form.Statement within)
  statement_cases within next =
      let at : Stand = stand within in (
        λ b isb ok. block_stated w at b isb,
        (
          λ s iss ok. word_stated w at class.Semicolon s (codes ";") [] iss (semicolon_text s iss) refl (empty_kind w at),
          (
            λ a isa s iss ok. act_stated w at a s isa,
            (
              λ word isw raws h s iss ok. word_jumps w at class.Return word (codes "return") (raws ++ s ∷ []) isw (return_text word isw) (h at (judged word) s),
              (
                λ word isw o iso x isx c isc s iss raws h ok. word_stated w at class.If word (codes "if") (o ∷ x ∷ c ∷ s ∷ raws) isw (if_text word isw) refl (h (judged o) (judged x) (judged c) (judged s) isx.1 iss.plain),
                (
                  λ word isw o iso x isx c isc s iss ok. word_stated w at class.While word (codes "while") (o ∷ x ∷ c ∷ s ∷ []) isw (while_text word isw) refl (while_kind w at false (judged o) (judged x) (judged c) (judged s) isx.1 iss.plain),
                  (
                    λ word isw s iss k isk o iso x isx c isc m ism ok. word_stated w at class.Do word (codes "do") (s ∷ k ∷ o ∷ x ∷ c ∷ m ∷ []) isw (do_text word isw) refl (do_kind w at false (judged s) (judged k) (judged o) (judged x) (judged c ∷ judged m ∷ []) iss.plain isx.1),
                    (
                      λ word isw o iso fs isf ts ist m ism st isst c isc s iss ok. word_stated w at class.For word (codes "for") (o ∷ (fs ++ (ts ++ (m ∷ (st ++ c ∷ s ∷ []))))) isw (for_text word isw) refl
                          (for_kind w at false (judged o) (map judged (fs ++ (ts ++ (m ∷ (st ++ c ∷ s ∷ []))))) (isf (ts ++ (m ∷ (st ++ c ∷ s ∷ []))) (ist m ism (st ++ c ∷ s ∷ []) (isst c s isc iss.plain)))),
                      (
                        λ word isw o iso x isx c isc b isb raws h k isk ok. word_stated w at class.Switch word (codes "switch") (o ∷ x ∷ c ∷ b ∷ (raws ++ k ∷ [])) isw (switch_text word isw) refl
                            (switch_kind w at (judged o) (judged x) (judged c) (judged b) (map judged (raws ++ k ∷ [])) isx.1 (subst (λ z. AreGroups w z true (map judged (raws ++ k ∷ []))) (stand_switched within) (h k isk))),
                        jumps_each within next,
                      ),
                    ),
                  ),
                ),
              ),
            ),
          ),
        ),
      )

  pub else_part_cases : (within : Within) → Cases w (form.ElsePart within)
  else_part_cases within next = (
    λ ok bracket test close part isx iss. if_kind w (stand within) false bracket test close part isx iss,
    (λ word isw s iss ok bracket test close part isx isp. if_else_kind w (stand within) false false bracket test close part (judged word) (judged s) isx isp iss.plain, tt),
  )

  pub returned_cases : Cases w form.Returned
  returned_cases next = (
    λ ok at first sign. return_nothing w at first.place (judged sign),
    (λ x isx ok at first sign. return_value w at first.place (judged x) (judged sign) isx.1, tt),
  )

  pub for_first_cases : Cases w form.ForFirst
  for_first_cases next = (
    λ d isd ok rest h. IsFor.declares false (judged d) (map judged rest) (node_is rules.Declaration d isd.0) (ap rule.is_declaration (node_rule rules.Declaration d isd.0)) isd.1 h,
    (
      λ a isa s iss ok rest h. IsFor.acts false (judged a) (judged s) (map judged rest) (node_is rules.Action a isa.node) (ap rule.is_declaration (node_rule rules.Action a isa.node)) isa.act h,
      (λ s iss ok rest h. IsFor.none false (judged s) (map judged rest) (leaf_is class.Semicolon s iss) h, tt),
    ),
  )

  pub tested_cases : Cases w form.Tested
  tested_cases next = (
    λ ok sign iss rest h. IsTest.none false (judged sign) (map judged rest) (leaf_is class.Semicolon sign iss) h,
    (λ x isx ok sign iss rest h. IsTest.some_ false (judged x) (judged sign) (map judged rest) (node_is rules.Expr x isx.0) isx.1 h, tt),
  )

  pub stepped_cases : Cases w form.Stepped
  stepped_cases next = (
    λ ok close part isc isp. IsStep.none false (judged close) (judged part) (leaf_is class.Close close isc) isp,
    (λ a isa ok close part isc isp. IsStep.some_ false (judged a) (judged close) (judged part) (node_is rules.Action a isa.node) isa.act isp, tt),
  )

  -- ---- the groups of a switch

  more_each : (within : Within) (ended : Bool) (next : Option Class) → Each (Case w (form.Groups within ended) next) (grammar.more_groups within ended)
  more_each within true next = (
    λ g isg raws h ok close isc. AreGroups.group_first true (judged g) (map judged (raws ++ close ∷ [])) (node_is rules.Group g isg.0) isg.1 (h close isc),
    (λ g isg raws h ok close isc. AreGroups.group_first false (judged g) (map judged (raws ++ close ∷ [])) (node_is rules.Group g isg.0) isg.1 (h close isc), tt),
  )
  more_each within false next = tt

  pub groups_cases : (within : Within) (ended : Bool) → Cases w (form.Groups within ended)
  groups_cases within ended next = (λ ok close isc. AreGroups.token_behind ended (judged close) [] (leaf_is class.CloseBrace close isc), more_each within ended next)

  label_rule : (l : Raw) → IsNode rules.Label l → rule.is_label (judged l).rule ≡ true
  label_rule l is = ap rule.is_label (node_rule rules.Label l is)

  -- a label ends nothing
  label_item : (f : List Raw → Bool) (l : Raw) (raws : List Raw) → IsNode rules.Label l → last_ends f (l ∷ raws) ≡ last_ends f raws
  label_item f l raws is = last_behind f l raws (ap (item_ends f) (node_layer rules.Label l is))

  -- behind the first label of a group
  labelled_group : (at : Stand) (ended : Bool) (l : Raw) (raws : List Raw) → IsNode rules.Label l → IsLabelled w at raws → grammar.same_answer ended (ends_in_jump (l ∷ raws)) ≡ true → AreLabelled w at ended (map judged raws)
  labelled_group at true l raws is h ok = h.ends 64 (sym (label_item (ender 64) l raws is) ∙ (sym (through_is 64 (l ∷ raws)) ∙ ok))
  labelled_group at false l raws is h ok = h.plain

  pub group_cases : (within : Within) (ended : Bool) → Cases w (form.Group within ended)
  group_cases within ended next = (
    λ l isl raws h ok. (
      a_node rules.Group (l ∷ raws),
      on_node (λ (j : Judged). IsGroup w (stand within) ended j.group) rules.Group (l ∷ raws)
          (group_has w (stand within) ended (judged l) (map judged raws) (label_rule l isl.0) isl.1 (labelled_group (stand within) ended l raws isl.0 h ok)),
    ),
    tt,
  )

  item_label : (i : Raw) → IsNode rules.Item i → rule.is_label (judged i).rule ≡ false
  item_label i is = ap rule.is_label (node_rule rules.Item i is)

  labelled_items : (at : Stand) (i : Raw) (raws : List Raw) → IsItemed w at i → AreItemed w at raws → IsLabelled w at (i ∷ raws)
  labelled_items at i raws h hs = record {
    plain = AreLabelled.items_behind false (judged i) (map judged raws) (item_label i h.node) (subst (λ z. AreItems w at false false (map judged z)) (append-nil (i ∷ raws)) (plain_items w at (i ∷ raws) [] (h, hs) (λ b. AreItems.no_more b)));
    ends = λ n e. AreLabelled.items_behind true (judged i) (map judged raws) (item_label i h.node) (subst (λ z. AreItems w at false true (map judged z)) (append-nil (i ∷ raws)) (ended_items w at false n (i ∷ raws) [] (h, hs) (λ b. AreItems.no_more b) e));
  }

  pub labelled_cases : (within : Within) → Cases w (form.Labelled within)
  labelled_cases within next = (
    λ ok. record { plain = AreLabelled.nothing; ends = λ n e. absurd (false_true false refl e) },
    (
      λ l isl raws h ok. record {
        plain = AreLabelled.label_first false (judged l) (map judged raws) (label_rule l isl.0) isl.1 h.plain;
        ends = λ n e. AreLabelled.label_first true (judged l) (map judged raws) (label_rule l isl.0) isl.1 (h.ends n (sym (label_item (ender n) l raws isl.0) ∙ e));
      },
      (λ i isi raws h ok. labelled_items (stand within) i raws isi h, tt),
    ),
  )

  pub label_cases : Cases w form.Label
  label_cases next = (
    λ word isw x isx c isc ok. (a_node rules.Label (word ∷ x ∷ c ∷ []), on_node (λ (j : Judged). IsLabel w j.label) rules.Label (word ∷ x ∷ c ∷ []) (case_label w (judged word) (judged x) (judged c) isx.1)),
    (λ word isw c isc ok. (a_node rules.Label (word ∷ c ∷ []), on_node (λ (j : Judged). IsLabel w j.label) rules.Label (word ∷ c ∷ []) (default_label w (judged word) (judged c))), tt),
  )
