-- The image of a graph of one function and its certificate keep every rule.
use Rattle.std.proofs.Common.{◌≡◌, ℕ, zero, suc, ◌+◌, ◌≤◌, ◌<◌, Bool, true, false, not, Option, Some, None, List, [], ◌∷◌, length, refl, sym, ap, ◌∙◌, subst, arith}
use Rattle.std.specs.Prelude.{◌==◌, ◌&&◌, is_some, pos, slice_get, if◌then◌else◌}
use Rattle.board_table.specs.declared.board.Board.{Board}
use Rattle.ti_txt.specs.Image.{Block}
use Rattle.certificate.specs.declared.cert.StretchRow.{StretchRow}
use Rattle.certificate.specs.Rows.{Point}
use Rattle.flow_graph.specs.declared.graph.Graph.{Graph}
use Rattle.flow_graph.specs.declared.nodes.Node.{Node}
use Rattle.flow_graph.specs.Nodes.{graph_nodes}
use Rattle.flow_graph.specs.Rules.{IsGraph}
use Rattle.flow_graph.proofs.ListLemmas.{item_at}
use Rattle.graph_code.specs.Homes.{HaveHomes, data_bytes, most_data}
use Rattle.graph_code.specs.Order.{IsAlone}
use Rattle.graph_code.specs.Pieces.{address_of, jumps_to}
use Rattle.graph_code.proofs.HomeLemmas.{objects_have_homes}
use Rattle.graph_code.proofs.OrderLemmas.{runs_begin_first}
use Rattle.op_cost.specs.Templates.{Homes, weight_of}
use Rattle.op_cost.specs.Weights.{Fits}
use Rattle.each_image.specs.Each.{each_heads}
use Rattle.each_image.specs.Image.{HeadsStand, StretchesFit, code_words, fram_homes, fram_template, graph_blocks}
use Rattle.each_image.proofs.EachHeads.{each_heads_stand}
use Rattle.emit_each.specs.Emitting.{AllFit}
use Rattle.cert_rules.specs.declared.Rule.TheVariants.{Board as OtherBoard}
use Rattle.cert_rules.specs.Faults.{first_of, unless}
use Rattle.cert_rules.specs.Overhead.{sleep_cost, wake_cost}
use Rattle.cert_rules.specs.Tables.{head_at, point_at, point_fault, row_at, tables_fault}
use Rattle.cert_rules.specs.Sheet.{Sheet}
use Rattle.cert_rules.specs.Shapes.{turns_at, turns_at_point, turns_of_stretch}
use Rattle.cert_rules.specs.Going.{row_cost}
use Rattle.cert_rules.specs.Sweep.{Certified, SweptFrom, done, next as next_function}
use Rattle.cert_pieces.proofs.Stepping.{both}
use Rattle.cert_templates.specs.Frames.{Position, bytes_at, code_at, cost_to_head, points_from, stretch_rows}
use Rattle.cert_images.specs.Images.{EachImagesCertified, GraphImagesCertified, RowsAreOfHeads, graph_certificate, positions, positions_by}
use Rattle.cert_images.proofs.Coding.{eq_is}
use Rattle.cert_images.proofs.Laying.{HeadAt, Suffix}
use Rattle.cert_images.proofs.Folding.{Static, all_go}
use Rattle.cert_images.proofs.Placing.{heads_stand, start_at}
use Rattle.cert_images.proofs.Graphing.{all_pass, count_is}
use Rattle.cert_images.proofs.Sheeting.{code_stands, sheet_of, whole}
use Rattle.cert_images.proofs.Tabling.{FirstHas, boot_fine, first_row, functions_fine, heads_fine, start_fine}
use Rattle.cert_images.proofs.Inside.{has_its_stretch, points_fine}
use Rattle.cert_images.proofs.Costing.{budgets_fine, number_is, rows_are, start_there}

-- ---- No stretch has turns

abbrev turns_in : Option StretchRow → ℕ
turns_in None = 0
turns_in (Some row) = row.turns

no_turns : (b : Board) (homes : Homes) (a : ℕ) (ps : List Position) (x : ℕ) (row : StretchRow) → head_at (stretch_rows b homes a ps) x ≡ Some row → row.turns ≡ 0
no_turns b homes a [] x row e = absurd (let no : false ≡ true = ap (λ o. is_some o) e in cc)
no_turns b homes a (p ∷ ps) x row e = by p.has_head e (λ f. no_turns b homes (a + bytes_at homes p) ps x row f)
  where
    rest : List StretchRow
    rest = stretch_rows b homes (a + bytes_at homes p) ps

    mine : StretchRow
    mine = record { head = a; chain = 1; turns = 0; cost = wake_cost b + sleep_cost b + (weight_of b (code_at homes p) + cost_to_head b homes ps) }

    first : (c : Bool) → (if c then Some mine else head_at rest x) ≡ Some row → (head_at rest x ≡ Some row → row.turns ≡ 0) → row.turns ≡ 0
    first true f later = sym (ap (λ (o : Option StretchRow). turns_in o) f)
    first false f later = later f

    by : (c : Bool) → head_at (if c then mine ∷ rest else rest) x ≡ Some row → (head_at rest x ≡ Some row → row.turns ≡ 0) → row.turns ≡ 0
    by true f later = first (a == x) f later
    by false f later = later f

pub turns_none : (t : Sheet) (homes : Homes) (a : ℕ) (ps : List Position) → t.stretches ≡ stretch_rows t.board homes a ps → (x : ℕ) → turns_at t x ≡ None
turns_none t homes a ps same x = by_point (point_at t.points x)
  where
    by_row : (o : Option StretchRow) → ((row : StretchRow) → o ≡ Some row → row.turns ≡ 0) → (q : Option Point) → turns_of_stretch t x o q ≡ None
    by_row None h None = refl
    by_row None h (Some q) = refl
    by_row (Some row) h None = refl
    by_row (Some row) h (Some q) = ap (λ n. if not (n == 0) && q.address == x then Some n else None) (h row refl)

    by_point : (o : Option Point) → turns_at_point t x o ≡ None
    by_point None = refl
    by_point (Some p) =
        by_row (head_at t.stretches p.stretch) (λ row e. no_turns t.board homes a ps p.stretch row (ap (λ rows. head_at rows p.stretch) (sym same) ∙ e)) (row_at (λ q. q.stretch) t.points p.stretch)

-- ---- Positions of operations

first_has : (address : ℕ → ℕ) (heads : ℕ → Bool) (xs : List Node) → 0 < length xs → ((x : Node) → slice_get xs 0 ≡ Some x → heads x.op.number ≡ true) → FirstHas (positions_by address heads xs)
first_has address heads [] some h = absurd (omega (arith, some))
first_has address heads (x ∷ xs) some h = h x refl

position_at : (address : ℕ → ℕ) (heads : ℕ → Bool) (xs : List Node) (j : ℕ) (x : Node) → slice_get xs j ≡ Some x
    → slice_get (positions_by address heads xs) j ≡ Some (record { op = x.op; target = address (jumps_to x.next); has_head = heads x.op.number })
position_at address heads [] j x e = absurd (let no : false ≡ true = ap (λ o. is_some o) e in cc)
position_at address heads (y ∷ xs) zero x e =
    let same : y ≡ x = cc in
    ap (λ (z : Node). Some (record { op = z.op; target = address (jumps_to z.next); has_head = heads z.op.number })) same
position_at address heads (y ∷ xs) (suc j) x e = position_at address heads xs j x e

begins_there : (homes : Homes) (a : ℕ) (ps : List Position) → start_at homes a ps 0 ≡ a
begins_there homes a [] = refl
begins_there homes a (p ∷ ps) = refl

-- ---- All rules

module _ (b : Board) (heads : ℕ → Bool) (g : Graph) (rules : IsGraph g) (alone : IsAlone g) (stand : HeadsStand heads g) (fit : StretchesFit b heads g)
    (few : data_bytes g ≤ most_data) (room : code_words heads g ≤ 0x3FC0) where
  abbrev t : Sheet
  t = sheet_of b heads g rules few room

  abbrev places : ℕ → ℕ
  places = address_of (fram_template g) heads g

  have_homes : HaveHomes g
  have_homes = objects_have_homes g few

  static : Static t
  static = record { split = refl; turns = turns_none t (fram_homes g) 0x8012 (positions heads g) refl }

  some_first : 0 < length (graph_nodes g)
  some_first =
      let begin = runs_begin_first g rules alone in
      let first = begin.0 in
      let low = begin.1 in
      let count = count_is g rules alone have_homes in
      omega (arith, first, low, count)

  begins_with_head : FirstHas (positions heads g)
  begins_with_head = first_has places heads (graph_nodes g) some_first (λ x e. subst (λ n. heads n ≡ true) (sym (number_is g rules 0 x e)) stand.first)

  suffix : Suffix t (fram_homes g) (positions heads g) 0x8012 0x8012 0 false
  suffix =
      let row = first_row t (fram_homes g) 0x8012 (positions heads g) begins_with_head in
      record {
        code = code_stands b heads g rules few room;
        begun = omega arith;
        points = λ x h. refl;
        heads = λ x h. refl;
        pays = subst (λ o. 0 + cost_to_head b (fram_homes g) (positions heads g) + sleep_cost b ≤ row_cost o) (sym row.at) row.pays;
      }

  at_heads : (j : ℕ) → j < length (graph_nodes g) → heads j ≡ true → HeadAt t (places j)
  at_heads j low has =
      let node = item_at (graph_nodes g) j low in
      let x = node.0 in
      subst (λ a. HeadAt t a) (sym (start_there g heads j))
      (heads_stand t (fram_homes g) static (positions heads g) 0x8012 0x8012 0 false suffix j
      (record { op = x.op; target = places (jumps_to x.next); has_head = heads x.op.number }) (position_at places heads (graph_nodes g) j x node.1)
      (ap (λ n. heads n) (number_is g rules j x node.1) ∙ has))

  first_head : HeadAt t 0x8012
  first_head = subst (λ a. HeadAt t a) (start_there g heads 0 ∙ begins_there (fram_homes g) 0x8012 (positions heads g)) (at_heads 0 some_first stand.first)

  swept : SweptFrom t None
  swept = record {
    rest = None;
    swept = ((all_go t (fram_homes g) static (positions heads g) 0x8012 0x8012 0 false (all_pass g rules alone have_homes heads stand t refl places at_heads) suffix).ceases refl).begins;
    is = refl;
  }

  tables_fine : tables_fault (graph_blocks heads g) b.budget (whole b heads g rules few room ∷ []) (stretch_rows b (fram_homes g) 0x8012 (positions heads g)) b ≡ None
  tables_fine =
      let row = first_row t (fram_homes g) 0x8012 (positions heads g) begins_with_head in
      both _ _ (ap (λ c. unless c OtherBoard 0 (pos b.budget) (pos b.budget)) (eq_is b.budget b.budget refl))
      (both _ _ (boot_fine b heads g rules few room)
      (both _ _ (functions_fine b heads g rules few room first_head.inside)
      (both _ _ (heads_fine t (fram_homes g) static (positions heads g) 0x8012 0x8012 0 false suffix)
      (both _ _ (start_fine (stretch_rows b (fram_homes g) 0x8012 (positions heads g)) (whole b heads g rules few room) row.row refl row.at)
      (both _ _ (budgets_fine b heads g rules have_homes fit) refl)))))

  points_stand : first_of (point_fault (whole b heads g rules few room ∷ []) (stretch_rows b (fram_homes g) 0x8012 (positions heads g))) (points_from b (fram_homes g) 0x8012 0 0x8012 false (positions heads g)) ≡ None
  points_stand = points_fine t (fram_homes g) static (positions heads g) 0x8012 0x8012 0 false suffix (record { around = λ x h. refl; has = has_its_stretch t 0x8012 refl first_head })

  certified : Certified (graph_blocks heads g) (graph_certificate b heads g) b
  certified = record {
    sweep = None;
    swept = next_function true (whole b heads g rules few room) [] None swept (done false);
    is = sym (both _ _ tables_fine (both _ _ points_stand refl));
  }

pub graph_images_certified : GraphImagesCertified
graph_images_certified b heads g rules alone stand fit few room = certified b heads g rules alone stand fit few room

-- ---- What the emitter answers

fits_at : (b : Board) (xs : List Node) → AllFit b xs → (i : ℕ) (x : Node) → slice_get xs i ≡ Some x → Fits b x.op
fits_at b [] all i x e = absurd (let no : false ≡ true = ap (λ o. is_some o) e in cc)
fits_at b (y ∷ ys) all zero x e = let same : y ≡ x = cc in subst (λ (z : Node). Fits b z.op) same all.0
fits_at b (y ∷ ys) all (suc i) x e = fits_at b ys all.1 i x e

pub each_images_certified : EachImagesCertified
each_images_certified b g blocks rules alone emitted =
    let heads = each_heads_stand b g rules alone (fits_at b (graph_nodes g) emitted.fits) in
    subst (λ (bs : List Block). Certified bs (graph_certificate b (each_heads b g) g) b) (sym emitted.image)
    (graph_images_certified b (each_heads b g) g rules alone heads.0 heads.1 emitted.objects emitted.room)

pub rows_are_of_heads : RowsAreOfHeads
rows_are_of_heads b heads g rules few = rows_are b heads g rules (objects_have_homes g few)
