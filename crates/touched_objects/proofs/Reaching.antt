-- Paths through functions by their calls, and paths of a search.
use Rattle.std.proofs.Common.{◌≡◌, ◌↔◌, ◌+◌, ◌<◌, ℕ, zero, suc, Bool, true, false, List, [], ◌∷◌, ◌++◌, length, get_or, refl, sym, ap, subst, inl, inr, ◌∙◌, arith, length-append}
use Rattle.std.specs.Prelude.{Some, slice_get, Vec}
use Rattle.std.specs.declared.alloc.Global.{Global}
use Rattle.std.proofs.lemmas.Bool.{cases_lt}
use Rattle.std.proofs.lemmas.Option.{slice_get-get_or}
use Rattle.std.proofs.lemmas.List.{get_or_append_left}
use Rattle.std.proofs.Math.Seq.{get_or-append_seam}
use Rattle.graph_paths.specs.declared.Role.{Role}
use Rattle.graph_paths.specs.declared.Role.TheVariants.{Goal}
use Rattle.graph_paths.specs.Paths.{IsPath, Reaches, role_of}
use Rattle.graph_paths.specs.Arcs.{IsGrouped}
use Rattle.flow_graph.specs.declared.owned.Owned.{Owned}
use Rattle.touched_objects.specs.Touched.{TouchesAmong, TouchesBy, calls_of, named_by}
use Rattle.touched_objects.specs.Tables.{AreRowsOf, IsRowOf, marked, marked_at, role_by, roles_by}

-- ---- roles

pub so_many_roles : (bs : List Bool) → length (roles_by bs) ≡ length bs
so_many_roles [] = refl
so_many_roles (b ∷ bs) = ap suc (so_many_roles bs)

role_at : (bs : List Bool) (f : ℕ) → f < length bs → role_of (roles_by bs) f ≡ role_by (get_or bs f false)
role_at [] f lt = absurd (omega (arith, lt))
role_at (b ∷ bs) zero lt = refl
role_at (b ∷ bs) (suc f) lt = role_at bs f (omega (arith, lt))

goal_is : (b : Bool) → role_by b ≡ Goal → b ≡ true
goal_is true e = refl
goal_is false e = absurd (cc)

module _ (ops : List Owned) (count o : ℕ) (flags : List Bool) (before : List (Vec ℕ Global)) (so_many : length flags ≡ count) (named : (f : ℕ) → f < count → get_or flags f false ≡ named_by ops f o)
    (grouped : IsGrouped count (calls_of ops) before) where
  abbrev roles : List Role
  roles = roles_by flags

  role_is : (f : ℕ) → f < count → role_of roles f ≡ role_by (named_by ops f o)
  role_is f lt = role_at flags f (subst (λ n. f < n) (sym so_many) lt) ∙ ap role_by (named f lt)

  by_path : (f : ℕ) (path : List ℕ) → f < count → IsPath before roles f path → TouchesBy ops count o f path
  by_path f [] lt goal = goal_is (named_by ops f o) (sym (role_is f lt) ∙ goal)
  by_path f (c ∷ path) lt h = let l = h.1 in let within = grouped.within f c l in (grouped.is_arc f c l, within.1, by_path c path within.1 h.2)

  by_calls : (f : ℕ) (path : List ℕ) → f < count → TouchesBy ops count o f path → Reaches before roles f
  by_calls f [] lt h = record { path = []; leads = role_is f lt ∙ ap role_by h }
  by_calls f (c ∷ path) lt h = by_role (named_by ops f o) refl (by_calls c path h.1 h.2)
    where
      by_role : (b : Bool) → named_by ops f o ≡ b → Reaches before roles c → Reaches before roles f
      by_role true e r = record { path = []; leads = role_is f lt ∙ ap role_by e }
      by_role false e r = record { path = c ∷ r.path; leads = (role_is f lt ∙ ap role_by e, grouped.leads f c h.0 lt h.1, r.leads) }

  pub row_is : (row : List Bool) → ((f : ℕ) → (get_or row f false ≡ true) ↔ Reaches before roles f) → IsRowOf ops count o row
  row_is row exact f lt = (λ e. let r = (exact f).0 e in record { path = r.path; touches = by_path f r.path lt r.leads }, λ t. (exact f).1 (by_calls f t.path lt t.touches))

-- ---- rows

row_left : (rows : List (Vec Bool Global)) (row : Vec Bool Global) (o : ℕ) → o < length rows → slice_get (rows ++ row ∷ []) o ≡ slice_get rows o
row_left rows row o lt = let n = length-append rows (row ∷ []) in
    slice_get-get_or (rows ++ row ∷ []) o row (omega arith) ∙ (ap Some (get_or_append_left rows (row ∷ []) row o lt) ∙ sym (slice_get-get_or rows o row lt))

row_last : (rows : List (Vec Bool Global)) (row : Vec Bool Global) → slice_get (rows ++ row ∷ []) (length rows) ≡ Some row
row_last rows row = let n = length-append rows (row ∷ []) in slice_get-get_or (rows ++ row ∷ []) (length rows) row (omega arith) ∙ ap Some (get_or-append_seam rows row [] row)

pub no_rows : (ops : List Owned) (count : ℕ) → AreRowsOf ops count 0 []
no_rows ops count = record { so_many = refl; each = λ o lt f in'. absurd (omega (arith, lt)) }

pub rows_more : (ops : List Owned) (count n : ℕ) (rows : List (Vec Bool Global)) (row : Vec Bool Global) → AreRowsOf ops count n rows → IsRowOf ops count n row.items → AreRowsOf ops count (n + 1) (rows ++ row ∷ [])
rows_more ops count n rows row h r = record {
  so_many = let m = length-append rows (row ∷ []) in let k = h.so_many in omega (arith, m, k);
  each = λ o lt f in'. elim (cases_lt o n) [
    | inl l ↦ let same = ap (λ x. marked x f) (row_left rows row o (let k = h.so_many in omega (arith, l, k))) in let p = h.each o l f in' in (λ e. p.0 (sym same ∙ e), λ t. same ∙ p.1 t)
    | inr g ↦ let here : o ≡ n = omega (arith, lt, g) in let at : length rows ≡ o = h.so_many ∙ sym here in
        let same : marked_at (rows ++ row ∷ []) o f ≡ get_or row.items f false = ap (λ k. marked_at (rows ++ row ∷ []) k f) (sym at) ∙ ap (λ x. marked x f) (row_last rows row) in
        let p = subst (λ k. (get_or row.items f false ≡ true) ↔ TouchesAmong ops count f k) (sym here) (r f in') in (λ e. p.0 (sym same ∙ e), λ t. same ∙ p.1 t)
  ];
}
