-- Lists that are written one part after another.
use Rattle.std.proofs.Common.{◌≡◌, ◌↔◌, ◌+◌, ◌-◌, ◌<◌, ℕ, zero, suc, Bool, true, false, List, [], ◌∷◌, ◌++◌, length, get_or, refl, sym, ap, subst, inl, inr, ◌∙◌, arith, length-append}
use Rattle.std.specs.Prelude.{Some, slice_get, Vec, replicate}
use Rattle.std.specs.declared.alloc.Global.{Global}
use Rattle.std.proofs.lemmas.Bool.{cases_lt}
use Rattle.std.proofs.lemmas.Option.{slice_get-get_or}
use Rattle.std.proofs.lemmas.List.{get_or_append_left}
use Rattle.std.proofs.Math.Seq.{get_or-append_seam}
use Rattle.std.proofs.lemmas.List.{length-replicate}
use Rattle.graph_paths.specs.declared.arcs.Arc.{Arc}
use Rattle.graph_paths.specs.declared.Role.TheVariants.{Open}
use Rattle.graph_paths.specs.Paths.{AreWithin, Reaches}
use Rattle.graph_paths.specs.Arcs.{IsGrouped}
use Rattle.flow_graph.specs.declared.graph.Graph.{Graph}
use Rattle.flow_graph.specs.declared.owned.Owned.{Owned}
use Rattle.live_objects.specs.declared.liveness.Liveness.{Liveness}
use Rattle.flow_graph.specs.Owned.{operations}
use Rattle.live_objects.specs.GraphArcs.{entries, arcs_from, roles_by}
use Rattle.live_objects.specs.Rows.{AreRows, IsLivenessOf, IsRow, IsTable, live_at, marked, place_roles}
use Rattle.live_objects.proofs.LivePaths.{roles_length, row_is, so_many_entries}

pub one_open_more : (n : ℕ) → 0 < n → replicate n Open ≡ (Open ∷ []) ++ replicate (n - 1) Open
one_open_more zero lt = absurd (omega arith)
one_open_more (suc n) lt = ap (λ k. Open ∷ replicate k Open) (omega arith)

-- ---- rows

row_left : (rows : List (Vec Bool Global)) (row : Vec Bool Global) (o : ℕ) → o < length rows → slice_get (rows ++ row ∷ []) o ≡ slice_get rows o
row_left rows row o lt = let n = length-append rows (row ∷ []) in
    slice_get-get_or (rows ++ row ∷ []) o row (omega arith) ∙ (ap Some (get_or_append_left rows (row ∷ []) row o lt) ∙ sym (slice_get-get_or rows o row lt))

row_last : (rows : List (Vec Bool Global)) (row : Vec Bool Global) → slice_get (rows ++ row ∷ []) (length rows) ≡ Some row
row_last rows row = let n = length-append rows (row ∷ []) in slice_get-get_or (rows ++ row ∷ []) (length rows) row (omega arith) ∙ ap Some (get_or-append_seam rows row [] row)

pub no_rows : (before : List (Vec ℕ Global)) (ops : List Owned) (functions : ℕ) → AreRows before ops functions 0 []
no_rows before ops functions = record { so_many = refl; reach = λ o lt i. absurd (omega arith) }

pub rows_more : (before : List (Vec ℕ Global)) (ops : List Owned) (functions n : ℕ) (rows : List (Vec Bool Global)) (row : Vec Bool Global) → AreRows before ops functions n rows
    → ((i : ℕ) → (get_or row.items i false ≡ true) ↔ Reaches before (place_roles n ops functions) i) → AreRows before ops functions (n + 1) (rows ++ row ∷ [])
rows_more before ops functions n rows row h r = record {
  so_many = let m = length-append rows (row ∷ []) in let k = h.so_many in omega arith;
  reach = λ o lt i. elim (cases_lt o n) [
    | inl l ↦ let same = ap (λ x. marked x i) (row_left rows row o (let k = h.so_many in omega arith)) in let p = h.reach o l i in (λ e. p.0 (sym same ∙ e), λ g. same ∙ p.1 g)
    | inr g ↦ let here : o ≡ n = omega arith in let at : length rows ≡ o = h.so_many ∙ sym here in
        let same : live_at (rows ++ row ∷ []) o i ≡ get_or row.items i false = ap (λ k. live_at (rows ++ row ∷ []) k i) (sym at) ∙ ap (λ x. marked x i) (row_last rows row) in
        let p = subst (λ k. (get_or row.items i false ≡ true) ↔ Reaches before (place_roles k ops functions) i) (sym here) (r i) in (λ e. p.0 (sym same ∙ e), λ g. same ∙ p.1 g)
  ];
}

rows_are : (g : Graph) (before : List (Vec ℕ Global)) (arcs : List Arc) (rows : List (Vec Bool Global)) (functions : ℕ)
    → functions ≡ length g.functions → arcs ≡ arcs_from (length (operations g)) (entries g.functions) 0 (operations g)
    → IsGrouped (length (operations g) + functions) arcs before → AreRows before (operations g) functions (length g.objects) rows
    → (o : ℕ) → o < length g.objects → IsRow g o (live_at rows o)
rows_are g before arcs rows functions e f grouped r o lt =
    row_is g o before (live_at rows o)
    (subst (λ n. IsGrouped (length (operations g) + n) (arcs_from (length (operations g)) (entries g.functions) 0 (operations g)) before) e (subst (λ xs. IsGrouped (length (operations g) + functions) xs before) f grouped))
    (λ i. subst (λ n. (live_at rows o i ≡ true) ↔ Reaches before (place_roles o (operations g) n) i) e (r.reach o lt i))

with_operations : (g : Graph) (before : List (Vec ℕ Global)) (arcs : List Arc) (rows : List (Vec Bool Global)) (ops : List Owned) (es : List ℕ)
    → ops ≡ operations g → es ≡ entries g.functions → arcs ≡ arcs_from (length ops) es 0 ops → IsGrouped (length ops + length es) arcs before → AreRows before ops (length es) (length g.objects) rows
    → (o : ℕ) → o < length g.objects → IsRow g o (live_at rows o)
with_operations g before arcs rows ops es e f a grouped r =
    rows_are g before arcs rows (length es) (ap length f ∙ so_many_entries g.functions)
    (a ∙ (ap (λ xs. arcs_from (length xs) es 0 xs) e ∙ ap (λ xs. arcs_from (length (operations g)) xs 0 (operations g)) f))
    (subst (λ xs. IsGrouped (length xs + length es) arcs before) e grouped)
    (subst (λ xs. AreRows before xs (length es) (length g.objects) rows) e r)

pub liveness_is : (l : Liveness) (g : Graph) (ops : List Owned) (es : List ℕ) (objects : ℕ) → l.operations.items ≡ operations g → l.entries.items ≡ entries g.functions → ops ≡ l.operations.items → es ≡ l.entries.items
    → objects ≡ length g.objects → IsTable ops es objects l.rows.items → IsLivenessOf l g
liveness_is l g ops es objects e f d b n t = record {
  operations = e;
  entries = f;
  rows = with_operations g t.before (arcs_from (length ops) es 0 ops) l.rows.items ops es (d ∙ e) (b ∙ f) refl t.grouped (subst (λ k. AreRows t.before ops (length es) k l.rows.items) n t.rows_are);
}

pub within_count : (count : ℕ) (arcs : List Arc) (before : List (Vec ℕ Global)) → IsGrouped count arcs before → length before ≡ count → AreWithin (length before) before
within_count count arcs before g n = λ i j l. let h = (g.within i j l).0 in omega arith

pub so_many_roles : (o : ℕ) (ops : List Owned) (functions : ℕ) → length (place_roles o ops functions) ≡ length ops + functions
so_many_roles o ops functions =
    let a = length-append (roles_by o ops) (replicate functions Open) in let b = roles_length o ops in let c = length-replicate functions Open in omega (arith, a, b, c)
