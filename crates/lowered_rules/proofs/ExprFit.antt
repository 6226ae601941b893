-- A typed expression whose names are in reach gives items that fit anywhere, and an operand that is a constant word or a scalar.
use Rattle.std.proofs.Common.{◌≡◌, ℕ, ◌+◌, ◌%◌, ◌^◌, ◌<◌, ◌≤◌, Bool, true, false, Option, Some, None, List, [], ◌∷◌, ◌++◌, refl, sym, ap, subst, ◌∙◌, arith}
use Rattle.std.specs.Prelude.{⊤, ◌||◌, ◌&&◌, map, slice_get, is_none, is_some, if◌then◌else◌}
use Rattle.std.proofs.lemmas.Bool.{and_parts, false≢true}
use Rattle.base_io.specs.declared.place.Place.{Place}
use Rattle.c_values.specs.declared.ops.Ty.{Ty}
use Rattle.c_values.specs.declared.ops.Ty.TheVariants.{I8, U8, I16, U16}
use Rattle.c_values.specs.declared.ops.UnaryOp.{UnaryOp}
use Rattle.c_values.specs.declared.ops.UnaryOp.TheVariants as unary
use Rattle.c_values.specs.declared.ops.BinaryOp.{BinaryOp}
use Rattle.c_values.specs.declared.ops.BinaryOp.TheVariants as binary
use Rattle.c_tree.specs.Nodes.{same_type}
use Rattle.c_tree.specs.declared.tree.Variable.{Variable}
use Rattle.c_tree.specs.declared.tree.Expr.{Expr}
use Rattle.c_tree.specs.declared.tree.ExprKind.{out-ExprKind}
use Rattle.c_tree.specs.declared.tree.ExprKind.TheOpen.{ExprKind-F}
use Rattle.c_tree.specs.declared.tree.Function.{Function}
use Rattle.c_tree.specs.Layer.{ExprLayer}
use Rattle.sound_programs.specs.Scoped.{holds, names, names_by, all_in}
use Rattle.sound_programs.specs.Sound.{is_scalar, is_array}
use Rattle.sound_programs.proofs.NameLevels.{named, names_level}
use Rattle.flow_graph.specs.declared.graph.Operand.{Operand}
use Rattle.flow_graph.specs.declared.graph.Operand.TheVariants.{Const, Object}
use Rattle.flow_graph.specs.declared.graph.OpKind.{OpKind}
use Rattle.flow_graph.specs.declared.graph.OpKind.TheVariants as kind
use Rattle.flow_graph.specs.declared.graph.Item.{Item}
use Rattle.flow_graph.specs.declared.graph.Item.TheVariants.{One, CallTo}
use Rattle.flow_graph.specs.Rules.{Parts, Where, Open, MayGo, fittings, ends_in_go}
use Rattle.lowered_graphs.specs.Making.{Counts, Made, Emit, behind_items, pure, one, op_of, make_of, go, plain, test_of, zero_operand}
use Rattle.lowered_graphs.specs.Operators.{make_binary, make_ordered, is_exchanged, binary_kind, make_unary, make_some, make_conversion, conversion_kind}
use Rattle.lowered_graphs.specs.Exprs.{Setting, LoweredExpr, calls, callees_of, callees_by, has_any, lowered, lowered_by, parts, is_global, home, result_home, array_use, length_in, length_or, read_scalar, load, set_new, copy_op, arms, new_truth, new_copy, truth_into, copy_into_temporary, both, either_of, choice, ordinary, binary_of, arguments_onto, copy_arguments, take_result, call, output, place_of}
use Rattle.lowered_graphs.proofs.ExprLevels.{lowered_level}
use Rattle.lowered_rules.proofs.Inductions.{EachExpr, ExprParts, expr_induction}
use Rattle.lowered_rules.proofs.EachLemmas.{Each, each_append, each_left, each_right, each_from, or_second}
use Rattle.lowered_rules.proofs.OpLemmas.{IsMaking, binary_makes}
use Rattle.lowered_rules.proofs.OrderLemmas.{next}
use Rattle.lowered_rules.proofs.ExprOrder.{OrderlyExpr, OrderlyEach, orderly_expr, orderly_binary, orderly_conversion, orderly_unary, orderly_arguments, orderly_call}
use Rattle.lowered_rules.proofs.TypedParts.{Typed, EachTyped, TypedLayer, typed_parts}
use Rattle.lowered_rules.proofs.FitLemmas.{Ground, OperandGood, DestGood, ArrayGood, GoodOp, Writes, Fits, fits_none, fits_append, fits_one, fits_call, fits_branch, go_behind, go_last, Spared, writes_temporary, writes_parameter}

-- the kind of a conversion makes a word
abbrev MakesIf : Option OpKind → Type 0
MakesIf None = ⊤
MakesIf (Some k) = IsMaking k false

to_u8 : IsMaking kind.ToU8 false
to_u8 = record { has = refl; counts = λ op. tt; alone = refl; stores = λ op. refl }

to_s8 : IsMaking kind.ToS8 false
to_s8 = record { has = refl; counts = λ op. tt; alone = refl; stores = λ op. refl }

conversion_makes : (to from : Ty) → MakesIf (conversion_kind to from)
conversion_makes U8 U8 = tt
conversion_makes U8 I8 = to_u8
conversion_makes U8 I16 = to_u8
conversion_makes U8 U16 = to_u8
conversion_makes I8 I8 = tt
conversion_makes I8 U8 = to_s8
conversion_makes I8 I16 = to_s8
conversion_makes I8 U16 = to_s8
conversion_makes I16 from = tt
conversion_makes U16 from = tt

pub copy_makes : IsMaking kind.Copy false
copy_makes = record { has = refl; counts = λ op. tt; alone = refl; stores = λ op. refl }

pub unequal_makes : IsMaking kind.Ne true
unequal_makes = record { has = refl; counts = λ op. tt; alone = refl; stores = λ op. refl }

pub equal_makes : IsMaking kind.Eq true
equal_makes = record { has = refl; counts = λ op. tt; alone = refl; stores = λ op. refl }

pub or_makes : IsMaking kind.BitOr true
or_makes = record { has = refl; counts = λ op. tt; alone = refl; stores = λ op. refl }

-- a variable that is of a type is there
pub scalar_there : (ty : Ty) (v : Option Variable) → is_scalar ty v ≡ true → (x : Variable) × (v ≡ Some x) × (x.length ≡ None)
scalar_there ty None h = absurd (false≢true h)
scalar_there ty (Some v) h = (v, refl, none_is v.length (and_parts (is_none v.length) (same_type v.ty ty) h).0)
  where
    none_is : (n : Option ℕ) → is_none n ≡ true → n ≡ None
    none_is None k = refl
    none_is (Some n) k = absurd (false≢true k)

pub some_is : (n : Option ℕ) → is_some n ≡ true → (k : ℕ) × (n ≡ Some k)
some_is None h = absurd (false≢true h)
some_is (Some n) h = (n, refl)

array_there : (ty : Ty) (v : Option Variable) → is_array ty v ≡ true → (x : Variable) × (n : ℕ) × (v ≡ Some x) × (x.length ≡ Some n)
array_there ty None h = absurd (false≢true h)
array_there ty (Some v) h = let s = some_is v.length (and_parts (is_some v.length) (same_type v.ty ty) h).0 in (v, s.0, refl, s.1)

module _ (G : Ground) where
  -- ---- operations

  pub zero_good : (used : Bool) → OperandGood G used (Const 0)
  zero_good true = omega arith
  zero_good false = refl

  pub sets_good : (k : OpKind) (two : Bool) (o : ℕ) (a b : Operand) (at : Place) (n : ℕ) → IsMaking k two → G.scalar o → OperandGood G true a → OperandGood G two b → GoodOp G (op_of k (Some o) a b None at n)
  sets_good k two o a b at n m s ga gb = record {
    dest = subst (λ (p : Parts). DestGood G p.dest (Some o)) (sym m.has) s;
    a = subst (λ (p : Parts). OperandGood G p.a a) (sym m.has) ga;
    b = subst (λ (p : Parts). OperandGood G p.b b) (sym m.has) gb;
    array = subst (λ (p : Parts). ArrayGood G p.array None) (sym m.has) refl;
    count = m.counts (op_of k (Some o) a b None at n);
  }

  pub go_good : (at : Place) (n : ℕ) → GoodOp G (go at n)
  go_good at n = record { dest = refl; a = refl; b = refl; array = refl; count = tt }

  pub test_good : (a : Operand) (at : Place) (n : ℕ) → OperandGood G true a → GoodOp G (test_of a at n)
  test_good a at n h = record { dest = refl; a = h; b = refl; array = refl; count = tt }

  module _ (avoid : Option ℕ) (w : Where) where
    pub fits_set : (k : OpKind) (two : Bool) (o : ℕ) (a b : Operand) (at : Place) (n : ℕ) → IsMaking k two → G.scalar o → Writes G avoid o → OperandGood G true a → OperandGood G two b
        → Fits G avoid w Open (One (op_of k (Some o) a b None at n) ∷ [])
    fits_set k two o a b at n m s wr ga gb =
        fits_one G avoid w Open (op_of k (Some o) a b None at n) (sets_good k two o a b at n m s ga gb) m.alone
        (subst (λ l. Each (Writes G avoid) (o ∷ l)) (sym (m.stores (op_of k (Some o) a b None at n))) (wr, tt))

    pub fits_go : (at : Place) (n : ℕ) → Fits G avoid w MayGo (One (go at n) ∷ [])
    fits_go at n = fits_one G avoid w MayGo (go at n) (go_good at n) refl tt

    pub fits_copy : (o : ℕ) (a : Operand) (at : Place) (n : ℕ) → G.scalar o → Writes G avoid o → OperandGood G true a → Fits G avoid w Open (One (op_of kind.Copy (Some o) a zero_operand None at n) ∷ [])
    fits_copy o a at n s wr ga = fits_set kind.Copy false o a zero_operand at n copy_makes s wr ga refl

    pub fits_on : (c : Counts) {A B : Type 0} (m : Made A) (n : Made B) → Fits G avoid w Open m.items → Fits G avoid w Open n.items → Fits G avoid w Open (behind_items m.items n).items
    fits_on c m n h k = fits_append G avoid w Open m.items n.items h k

    pub record Gives (m : Made Operand) : Type 0 where
      pub fits : Fits G avoid w Open m.items
      pub value : OperandGood G true m.value

    pub gives_on : {A : Type 0} (m : Made A) (n : Made Operand) → Fits G avoid w Open m.items → Gives n → Gives (behind_items m.items n)
    gives_on m n h k = record { fits = fits_append G avoid w Open m.items n.items h k.fits; value = k.value }

    -- where the temporaries that are taken are the function's
    abbrev pub GivesAt : Emit Operand → Type 0
    GivesAt e = (c : Counts) → G.base ≤ c.temp → (e c).counts.temp ≤ G.top → Gives (e c)

    abbrev pub GivesExpr : LoweredExpr → Type 0
    GivesExpr e = (later : Bool) → GivesAt (e.emit later)

    pub gives_pure : (a : Operand) → OperandGood G true a → GivesAt (pure a)
    gives_pure a h c lo hi = record { fits = fits_none G avoid w; value = h }

    module _ (spared : Spared G avoid) where
      fresh : (t : ℕ) → G.base ≤ t → t < G.top → G.scalar t × Writes G avoid t
      fresh t lo hi = ((G.temporary t lo hi).0, writes_temporary G avoid t spared lo hi)

      pub gives_make : (k : OpKind) (two : Bool) (a b : Operand) (at : Place) → IsMaking k two → OperandGood G true a → OperandGood G two b → GivesAt (make_of k a b at)
      gives_make k two a b at m ga gb c lo hi =
          let f = fresh c.temp lo (omega (arith, hi)) in record { fits = fits_set k two c.temp a b at c.op m f.0 f.1 ga gb; value = f.0 }

      gives_some : (k : Option OpKind) (a : Operand) (at : Place) → MakesIf k → OperandGood G true a → GivesAt (make_some k a at)
      gives_some None a at m h = gives_pure a h
      gives_some (Some k) a at m h = gives_make k false a zero_operand at m h refl

      pub gives_conversion : (to from : Ty) (a : Operand) (at : Place) → OperandGood G true a → GivesAt (make_conversion to from a at)
      gives_conversion to from a at h = gives_some (conversion_kind to from) a at (conversion_makes to from) h

      gives_unary : (op : UnaryOp) (a : Operand) (at : Place) → OperandGood G true a → GivesAt (make_unary op a at)
      gives_unary unary.Plus a at h = gives_pure a h
      gives_unary unary.Minus a at h = gives_make kind.Neg false a zero_operand at (record { has = refl; counts = λ op. tt; alone = refl; stores = λ op. refl }) h refl
      gives_unary unary.Inv a at h = gives_make kind.Inv false a zero_operand at (record { has = refl; counts = λ op. tt; alone = refl; stores = λ op. refl }) h refl
      gives_unary unary.Not a at h = gives_make kind.Eq true a zero_operand at equal_makes h (zero_good true)

      gives_ordered : (exchanged : Bool) (k : OpKind) (a b : Operand) (at : Place) → IsMaking k true → OperandGood G true a → OperandGood G true b → GivesAt (make_ordered exchanged k a b at)
      gives_ordered true k a b at m ga gb = gives_make k true b a at m gb ga
      gives_ordered false k a b at m ga gb = gives_make k true a b at m ga gb

      pub gives_binary : (op : BinaryOp) (ty : Ty) (a b : Operand) (at : Place) → OperandGood G true a → OperandGood G true b → GivesAt (make_binary op ty a b at)
      gives_binary op ty a b at ga gb = gives_ordered (is_exchanged op) (binary_kind op ty) a b at (binary_makes op ty) ga gb

      -- ---- variables

      pub gives_read : (x : ℕ) (at : Place) (later : Bool) → G.scalar (home G.setting x) → GivesAt (read_scalar G.setting x at later)
      gives_read x at later h = by_case (later && is_global G.setting x)
        where
          by_case : (b : Bool) → GivesAt (if b then make_of kind.Copy (Object (home G.setting x)) zero_operand at else pure (Object (home G.setting x)))
          by_case true = gives_make kind.Copy false (Object (home G.setting x)) zero_operand at copy_makes h refl
          by_case false = gives_pure (Object (home G.setting x)) h

      pub gives_load : (x : ℕ) (i : Operand) (at : Place) → G.array (home G.setting x) (length_in (slice_get G.setting.program.variables x)) → OperandGood G true i → GivesAt (load G.setting x i at)
      gives_load x i at h gi c lo hi =
          let f = fresh c.temp lo (omega (arith, hi)) in
          record {
            fits = fits_one G avoid w Open (op_of kind.Load (Some c.temp) i zero_operand (Some (array_use G.setting x)) at c.op) (record { dest = f.0; a = gi; b = refl; array = h; count = tt }) refl (f.1, tt);
            value = f.0;
          }

      -- ---- `&&`, `||` and `?:`

      -- an arm: it may end in a Go
      record Arm (m : Made ℕ) : Type 0 where
        pub fits : Fits G avoid w MayGo m.items
        pub goes : ends_in_go (fittings m.items) ≡ true
        pub low : G.base ≤ m.value
        pub high : m.value < m.counts.temp

      arm_set : (k : OpKind) (two : Bool) (a : Operand) (at : Place) → IsMaking k two → OperandGood G true a → (c : Counts) → G.base ≤ c.temp → c.temp < G.top
          → Arm (set_new (λ x t. op_of k (Some t) x zero_operand None at) a at c)
      arm_set k two a at m ga c lo hi =
          let f = fresh c.temp lo hi in
          record {
            fits = fits_append G avoid w MayGo (_ ∷ []) (_ ∷ []) (fits_set k two c.temp a zero_operand at c.op m f.0 f.1 ga (zero_good two)) (fits_go at (c.op + 1));
            goes = go_last G (One (op_of k (Some c.temp) a zero_operand None at c.op) ∷ []) (go at (c.op + 1)) refl;
            low = lo;
            high = omega arith;
          }

      arm_on : {A : Type 0} (m : Made A) (n : Made ℕ) → Fits G avoid w Open m.items → Arm n → Arm (behind_items m.items n)
      arm_on m n h k = record { fits = fits_append G avoid w MayGo m.items n.items h k.fits; goes = go_behind G m.items n.items k.goes; low = k.low; high = k.high }

      gives_arms : (x : Operand) (at : Place) (a : Emit ℕ) (b : ℕ → Emit (Unit {0})) (c : Counts) → OperandGood G true x → Arm (a (next c)) → (a (next c)).value < G.top
          → Fits G avoid w Open (b (a (next c)).value (a (next c)).counts).items → Gives (arms (test_of x at c.op) a b (next c))
      gives_arms x at a b c gx h top k = record {
        fits = fits_branch G avoid w (test_of x at c.op) (a (next c)).items (b (a (next c)).value (a (next c)).counts).items (test_good x at c.op gx) refl (or_second _ (ends_in_go (fittings (a (next c)).items)) h.goes) h.fits k;
        value = (G.temporary (a (next c)).value h.low top).0;
      }

      -- ---- calls

      abbrev GoodOperands : List Operand → Type 0
      GoodOperands = Each (OperandGood G true)

      pub fits_copies : (xs : List ℕ) (operands : List Operand) (at : Place) (c : Counts) → Each (λ x. G.scalar (home G.setting x) × Writes G avoid (home G.setting x)) xs → GoodOperands operands
          → Fits G avoid w Open (copy_arguments G.setting xs operands at c).items
      fits_copies [] operands at c h k = fits_none G avoid w
      fits_copies (x ∷ xs) [] at c h k = fits_none G avoid w
      fits_copies (x ∷ xs) (a ∷ operands) at c h k =
          fits_append G avoid w Open (_ ∷ []) _ (fits_copy (home G.setting x) a at c.op h.0.0 h.0.1 k.0) (fits_copies xs operands at (next c) h.1 k.1)

      gives_result : (f : ℕ) (fn : Function) (ty : Option Ty) (at : Place) → G.callee f → slice_get G.setting.program.functions f ≡ Some fn → fn.result ≡ ty → GivesAt (take_result G.setting f ty at)
      gives_result f fn None at c e r = gives_pure zero_operand (zero_good true)
      gives_result f fn (Some ty) at c e r = gives_make kind.Copy false (Object (result_home G.setting f)) zero_operand at copy_makes (G.callee_result f fn ty c e r) refl

      gives_call : (f : ℕ) (fn : Function) (operands : List Operand) (at : Place) → G.callee f → slice_get G.setting.program.functions f ≡ Some fn → GoodOperands operands → GivesAt (call G.setting f (Some fn) operands at)
      gives_call f fn operands at callee e good c lo hi =
          let copies : Made (Unit {0}) = copy_arguments G.setting fn.params operands at c in
          let behind : Counts = record { op = copies.counts.op + 1; temp = copies.counts.temp } in
          let called : Item = CallTo (plain kind.Call zero_operand at copies.counts.op) (place_of G.setting f) in
          let result : Made Operand = take_result G.setting f fn.result at behind in
          let r = gives_result f fn fn.result at callee e refl behind (copies_low fn.params operands at c lo) hi in
          record {
            fits = fits_append G avoid w Open copies.items (called ∷ result.items)
                (fits_copies fn.params operands at c (each_from _ fn.params (λ x h. ((G.parameter f fn x callee e h).0, writes_parameter G avoid f fn x spared callee e h))) good)
                (fits_append G avoid w Open (called ∷ []) result.items
                (fits_call G avoid w (plain kind.Call zero_operand at copies.counts.op) (place_of G.setting f) (record { dest = refl; a = refl; b = refl; array = refl; count = tt }) refl (G.callee_calls f callee)) r.fits);
            value = r.value;
          }
        where
          copies_low : (xs : List ℕ) (os : List Operand) (p : Place) (d : Counts) → G.base ≤ d.temp → G.base ≤ (copy_arguments G.setting xs os p d).counts.temp
          copies_low [] os p d l = l
          copies_low (x ∷ xs) [] p d l = l
          copies_low (x ∷ xs) (o ∷ os) p d l = copies_low xs os p (next d) l

      -- ---- two operands

      module _ (a b : LoweredExpr) (oa : OrderlyExpr a) (ob : OrderlyExpr b) (ha : GivesExpr a) (hb : GivesExpr b) (at : Place) where
        gives_both : (later : Bool) → GivesAt (both a b at later)
        gives_both later c lo hi =
            let ma : Made Operand = a.emit (later || calls b) c in
            let mb : Made Operand = b.emit later (next ma.counts) in
            let ta = (oa (later || calls b) c).temps in
            let tb = (ob later (next ma.counts)).temps in
            let ga = ha (later || calls b) c lo (omega (arith, tb, hi)) in
            let gb = hb later (next ma.counts) (omega (arith, lo, ta)) (omega (arith, hi)) in
            let low : G.base ≤ mb.counts.temp = omega (arith, lo, ta, tb) in
            let high : mb.counts.temp < G.top = omega (arith, hi) in
            let f = fresh mb.counts.temp low high in
            gives_on ma _ ga.fits (gives_arms ma.value at (new_truth b at later) (λ t. one (copy_op at (Const 0) t)) ma.counts ga.value
            (arm_on mb _ gb.fits (arm_set kind.Ne true mb.value at unequal_makes gb.value mb.counts low high)) high
            (fits_copy mb.counts.temp (Const 0) at _ f.0 f.1 (zero_good true)))

        gives_either : (later : Bool) → GivesAt (either_of a b at later)
        gives_either later c lo hi =
            let ma : Made Operand = a.emit (later || calls b) c in
            let arm : Made ℕ = set_new (copy_op at) (Const 1) at (next ma.counts) in
            let mb : Made Operand = b.emit later arm.counts in
            let ta = (oa (later || calls b) c).temps in
            let tb = (ob later arm.counts).temps in
            let ga = ha (later || calls b) c lo (omega (arith, tb, hi)) in
            let gb = hb later arm.counts (omega (arith, lo, ta)) (omega (arith, hi)) in
            let low : G.base ≤ ma.counts.temp = omega (arith, lo, ta) in
            let high : ma.counts.temp < G.top = omega (arith, tb, hi) in
            let f = fresh ma.counts.temp low high in
            gives_on ma _ ga.fits (gives_arms ma.value at (set_new (copy_op at) (Const 1) at) (truth_into b at later) ma.counts ga.value
            (arm_set kind.Copy false (Const 1) at copy_makes one_word (next ma.counts) low high) high
            (fits_append G avoid w Open mb.items (_ ∷ []) gb.fits (fits_set kind.Ne true ma.counts.temp mb.value zero_operand at mb.counts.op unequal_makes f.0 f.1 gb.value (zero_good true))))
          where
            one_word : OperandGood G true (Const 1)
            one_word = omega arith

        gives_choice : (d : LoweredExpr) → OrderlyExpr d → GivesExpr d → (later : Bool) → GivesAt (choice d a b at later)
        gives_choice d od hd later c lo hi =
            let md : Made Operand = d.emit (later || (calls a || calls b)) c in
            let ma : Made Operand = a.emit (later || calls b) (next md.counts) in
            let arm : Made ℕ = new_copy a at (later || calls b) (next md.counts) in
            let mb : Made Operand = b.emit later arm.counts in
            let td = (od (later || (calls a || calls b)) c).temps in
            let ta = (oa (later || calls b) (next md.counts)).temps in
            let tb = (ob later arm.counts).temps in
            let gd = hd (later || (calls a || calls b)) c lo (omega (arith, ta, tb, hi)) in
            let ga = ha (later || calls b) (next md.counts) (omega (arith, lo, td)) (omega (arith, tb, hi)) in
            let gb = hb later arm.counts (omega (arith, lo, td, ta)) (omega (arith, hi)) in
            let low : G.base ≤ ma.counts.temp = omega (arith, lo, td, ta) in
            let high : ma.counts.temp < G.top = omega (arith, tb, hi) in
            let f = fresh ma.counts.temp low high in
            gives_on md _ gd.fits (gives_arms md.value at (new_copy a at (later || calls b)) (copy_into_temporary b at later) md.counts gd.value
            (arm_on ma _ ga.fits (arm_set kind.Copy false ma.value at copy_makes ga.value ma.counts low high)) high
            (fits_append G avoid w Open mb.items (_ ∷ []) gb.fits (fits_copy ma.counts.temp mb.value at mb.counts.op f.0 f.1 gb.value)))

        gives_ordinary : (op : BinaryOp) (ty : Ty) (later : Bool) → GivesAt (ordinary op ty a b at later)
        gives_ordinary op ty later c lo hi =
            let ma : Made Operand = a.emit (later || calls b) c in
            let mb : Made Operand = b.emit later ma.counts in
            let ta = (oa (later || calls b) c).temps in
            let tb = (ob later ma.counts).temps in
            let tc = (orderly_binary op ty ma.value mb.value at mb.counts).temps in
            let ga = ha (later || calls b) c lo (omega (arith, tb, tc, hi)) in
            let gb = hb later ma.counts (omega (arith, lo, ta)) (omega (arith, tc, hi)) in
            gives_on ma _ ga.fits (gives_on mb _ gb.fits (gives_binary op ty ma.value mb.value at ga.value gb.value mb.counts (omega (arith, lo, ta, tb)) hi))

        gives_two : (op : BinaryOp) (later : Bool) → GivesAt (binary_of op a b at later)
        gives_two binary.And later = gives_both later
        gives_two binary.Or later = gives_either later
        gives_two binary.Mul later = gives_ordinary binary.Mul a.ty later
        gives_two binary.Div later = gives_ordinary binary.Div a.ty later
        gives_two binary.Rem later = gives_ordinary binary.Rem a.ty later
        gives_two binary.Add later = gives_ordinary binary.Add a.ty later
        gives_two binary.Sub later = gives_ordinary binary.Sub a.ty later
        gives_two binary.Shl later = gives_ordinary binary.Shl a.ty later
        gives_two binary.Shr later = gives_ordinary binary.Shr a.ty later
        gives_two binary.Less later = gives_ordinary binary.Less a.ty later
        gives_two binary.Greater later = gives_ordinary binary.Greater a.ty later
        gives_two binary.LessEq later = gives_ordinary binary.LessEq a.ty later
        gives_two binary.GreaterEq later = gives_ordinary binary.GreaterEq a.ty later
        gives_two binary.Equal later = gives_ordinary binary.Equal a.ty later
        gives_two binary.NotEqual later = gives_ordinary binary.NotEqual a.ty later
        gives_two binary.BitAnd later = gives_ordinary binary.BitAnd a.ty later
        gives_two binary.BitXor later = gives_ordinary binary.BitXor a.ty later
        gives_two binary.BitOr later = gives_ordinary binary.BitOr a.ty later

      -- ---- every expression

      module _ (scope : List ℕ) (in_scope : (x : ℕ) → holds x scope ≡ true → G.known x) where
        abbrev s : Setting
        s = G.setting

        abbrev pub ExprFits : Expr → Type 0
        ExprFits e = Typed s.program e → names e scope ≡ true → Each G.callee (lowered s e).callees → GivesExpr (lowered s e)

        all_orderly : (es : List Expr) → OrderlyEach (map (lowered s) es)
        all_orderly [] = tt
        all_orderly (e ∷ es) = (orderly_expr s e, all_orderly es)

        record GivesList (m : Made (List Operand)) : Type 0 where
          pub fits : Fits G avoid w Open m.items
          pub values : GoodOperands m.value

        gives_arguments : (xs : List Operand) (later : Bool) (es : List Expr) → GoodOperands xs → EachExpr ExprFits es → EachTyped s.program es → all_in scope (map names es) ≡ true
            → Each G.callee (callees_of (map (lowered s) es)) → (c : Counts) → G.base ≤ c.temp → (arguments_onto xs later (map (lowered s) es) c).counts.temp ≤ G.top → GivesList (arguments_onto xs later (map (lowered s) es) c)
        gives_arguments xs later [] good h typed in' callees c lo hi = record { fits = fits_none G avoid w; values = good }
        gives_arguments xs later (e ∷ es) good h typed in' callees c lo hi =
            let after : Bool = later || has_any (callees_of (map (lowered s) es)) in
            let m : Made Operand = (lowered s e).emit after c in
            let rest : Made (List Operand) = arguments_onto (xs ++ m.value ∷ []) later (map (lowered s) es) m.counts in
            let both_in = and_parts (names e scope) (all_in scope (map names es)) in' in
            let te = (orderly_expr s e after c).temps in
            let tr = (orderly_arguments (xs ++ m.value ∷ []) later (map (lowered s) es) (all_orderly es) m.counts).temps in
            let g = h.0 typed.0 both_in.0 (each_left G.callee (lowered s e).callees (callees_of (map (lowered s) es)) callees) after c lo (omega (arith, tr, hi)) in
            let r = gives_arguments (xs ++ m.value ∷ []) later es (each_append (OperandGood G true) xs (m.value ∷ []) good (g.value, tt)) h.1 typed.1 both_in.1
            (each_right G.callee (lowered s e).callees (callees_of (map (lowered s) es)) callees) m.counts (omega (arith, lo, te)) hi in
            record { fits = fits_append G avoid w Open m.items rest.items g.fits r.fits; values = r.values }

        gives_output : (a : Operand) (at : Place) → OperandGood G true a → GivesAt (output a at)
        gives_output a at h c lo hi = record {
          fits = fits_one G avoid w Open (plain kind.Output a at c.op) (record { dest = refl; a = h; b = refl; array = refl; count = tt }) refl tt;
          value = zero_good true;
        }

        gives_input : (at : Place) → GivesAt (make_of kind.Input zero_operand zero_operand at)
        gives_input at c lo hi =
            let f = fresh c.temp lo (omega (arith, hi)) in
            record {
              fits = fits_one G avoid w Open (op_of kind.Input (Some c.temp) zero_operand zero_operand None at c.op) (record { dest = f.0; a = refl; b = refl; array = refl; count = tt }) refl (f.1, tt);
              value = f.0;
            }

        array_at : (x : ℕ) (ty : Ty) → G.known x → is_array ty (slice_get s.program.variables x) ≡ true → G.array (home s x) (length_in (slice_get s.program.variables x))
        array_at x ty k h =
            let v = array_there ty (slice_get s.program.variables x) h in
            let same : length_in (slice_get s.program.variables x) ≡ v.1 = ap length_in v.2 ∙ ap length_or v.3 in
            subst (G.array (home s x)) (sym same) (G.several x v.1 v.0 k v.2 v.3)

        level : (x : ExprLayer) (at : Place) (ty : Ty) → ExprParts ExprFits x → TypedLayer s.program ty x → names_by (named x) scope ≡ true → Each G.callee (callees_by (parts s x)) → GivesExpr (lowered_by s (parts s x) at ty)
        level (ExprKind-F.Number n) at ty h typed in' callees later c lo hi = gives_pure (Const (n % 2 ^ 16)) (omega arith) c lo hi
        level (ExprKind-F.Var x) at ty h typed in' callees later c lo hi = let v = scalar_there ty (slice_get s.program.variables x) typed in gives_read x at later (G.single x v.0 (in_scope x in') v.1 v.2) c lo hi
        level (ExprKind-F.Element x i) at ty h typed in' callees later c lo hi =
            let m : Made Operand = (lowered s i).emit later c in
            let both_in = and_parts (holds x scope) (names i scope) in' in
            let g = h typed.1 both_in.1 callees later c lo (omega (arith, hi)) in
            let t = (orderly_expr s i later c).temps in
            gives_on m _ g.fits (gives_load x m.value at (array_at x ty (in_scope x both_in.0) typed.0) g.value m.counts (omega (arith, lo, t)) hi)
        level (ExprKind-F.Convert e) at ty h typed in' callees later c lo hi =
            let m : Made Operand = (lowered s e).emit later c in
            let tc = (orderly_conversion ty (lowered s e).ty m.value at m.counts).temps in
            let g = h typed in' callees later c lo (omega (arith, tc, hi)) in
            let t = (orderly_expr s e later c).temps in
            gives_on m _ g.fits (gives_conversion ty (lowered s e).ty m.value at g.value m.counts (omega (arith, lo, t)) hi)
        level (ExprKind-F.Unary op a) at ty h typed in' callees later c lo hi =
            let m : Made Operand = (lowered s a).emit later c in
            let tc = (orderly_unary op m.value at m.counts).temps in
            let g = h typed in' callees later c lo (omega (arith, tc, hi)) in
            let t = (orderly_expr s a later c).temps in
            gives_on m _ g.fits (gives_unary op m.value at g.value m.counts (omega (arith, lo, t)) hi)
        level (ExprKind-F.Binary op a b) at ty h typed in' callees later c lo hi =
            let both_in = and_parts (names a scope) (names b scope) in' in
            gives_two (lowered s a) (lowered s b) (orderly_expr s a) (orderly_expr s b)
            (h.0 typed.0 both_in.0 (each_left G.callee (lowered s a).callees (lowered s b).callees callees))
            (h.1 typed.1 both_in.1 (each_right G.callee (lowered s a).callees (lowered s b).callees callees)) at op later c lo hi
        level (ExprKind-F.Cond d a b) at ty h typed in' callees later c lo hi =
            let first_in = and_parts (names d scope) (names a scope && names b scope) in' in
            let rest_in = and_parts (names a scope) (names b scope) first_in.1 in
            let rest = each_right G.callee (lowered s d).callees ((lowered s a).callees ++ (lowered s b).callees) callees in
            gives_choice (lowered s a) (lowered s b) (orderly_expr s a) (orderly_expr s b)
            (h.1 typed.1 rest_in.0 (each_left G.callee (lowered s a).callees (lowered s b).callees rest))
            (h.2 typed.2 rest_in.1 (each_right G.callee (lowered s a).callees (lowered s b).callees rest)) at (lowered s d) (orderly_expr s d)
            (h.0 typed.0 first_in.0 (each_left G.callee (lowered s d).callees ((lowered s a).callees ++ (lowered s b).callees) callees)) later c lo hi
        level (ExprKind-F.Call f args) at ty h typed in' callees later c lo hi =
            let m : Made (List Operand) = arguments_onto [] later (map (lowered s) args) c in
            let tc = (orderly_call s f (slice_get s.program.functions f) m.value at m.counts).temps in
            let ta = (orderly_arguments [] later (map (lowered s) args) (all_orderly args) c).temps in
            let g = gives_arguments [] later args tt h typed.2 in' (each_left G.callee (callees_of (map (lowered s) args)) (f ∷ []) callees) c lo (omega (arith, tc, hi)) in
            let called = subst (λ o. GivesAt (call s f o m.value at)) (sym typed.1) (gives_call f typed.0 m.value at (each_right G.callee (callees_of (map (lowered s) args)) (f ∷ []) callees).0 typed.1 g.values) in
            gives_on m _ g.fits (called m.counts (omega (arith, lo, ta)) hi)
        level ExprKind-F.Input at ty h typed in' callees later c lo hi = gives_input at c lo hi
        level (ExprKind-F.Output e) at ty h typed in' callees later c lo hi =
            let m : Made Operand = (lowered s e).emit later c in
            let g = h typed in' callees later c lo (omega (arith, hi)) in
            let t = (orderly_expr s e later c).temps in
            gives_on m _ g.fits (gives_output m.value at g.value m.counts (omega (arith, lo, t)) hi)

        pub expr_gives : (e : Expr) → ExprFits e
        expr_gives = expr_induction ExprFits (λ e h typed in' callees.
            subst GivesExpr (lowered_level s e) (level (out-ExprKind e.kind) e.place e.ty h (typed_parts s.program e typed) (subst (λ (f : List ℕ → Bool). f scope ≡ true) (sym (names_level e)) in')
            (subst (λ (l : LoweredExpr). Each G.callee l.callees) (sym (lowered_level s e)) callees)))
