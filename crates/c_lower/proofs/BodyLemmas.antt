-- The bodies of functions, one after another.
use Rattle.std.proofs.Common.{◌≡◌, ℕ, ◌+◌, sym, ap, ◌∙◌, Bool, true, false, List, [], ◌∷◌, ◌++◌, append_assoc}
use Rattle.std.specs.Prelude.{slice_index_or, if◌then◌else◌}
use Rattle.c_tree.specs.declared.tree.Function.{Function}
use Rattle.c_tree.specs.declared.tree.Program.{Program}
use Rattle.flow_graph.specs.declared.graph.Func.{Func}
use Rattle.lowered_graphs.specs.declared.homes.Homes.{Homes}
use Rattle.lowered_graphs.specs.declared.numbering.Numbering.{Numbering}
use Rattle.lowered_graphs.specs.Making.{Made}
use Rattle.lowered_graphs.specs.GraphOf.{Bodies, reached, func_of, made_function, with_function, objects_before, add_function, bodies_from}
use Rattle.c_lower.specs.Adding.{AddsBody}

-- a function that is lowered behind the objects numbered so far
abbrev made_here : Program → Homes → ℕ → ℕ → Numbering → Function → Made (Unit {0})
made_here p homes n op m f = made_function p homes n op (objects_before p n f m) f

-- the bodies from a function on, by whether it is reached
abbrev bodies_by : Program → Homes → ℕ → ℕ → Numbering → Function → List Function → Bool → Bodies
bodies_by p homes n op m f fs b =
    if b
    then with_function f (made_here p homes n op m f) (bodies_from p homes (n + 1) (made_here p homes n op m f).counts.op (add_function p n f m) fs)
    else bodies_from p homes (n + 1) op m fs

pub body_added : (p : Program) (homes : Homes) (n op behind : ℕ) (f : Function) (m new : Numbering) (done more : List Func) → slice_index_or (reached p) n false ≡ true
    → new ≡ add_function p n f m → more ≡ done ++ func_of f (made_function p homes n op (objects_before p n f m) f) ∷ []
    → behind ≡ (made_function p homes n op (objects_before p n f m) f).counts.op → AddsBody p homes n op behind f m new done more
body_added p homes n op behind f m new done more h e q k = record {
  functions = λ fs. ap (λ l. l ++ (bodies_from p homes (n + 1) behind new fs).functions) q
      ∙ (append_assoc done (func_of f (made_here p homes n op m f) ∷ []) (bodies_from p homes (n + 1) behind new fs).functions
      ∙ (ap (λ b. done ++ func_of f (made_here p homes n op m f) ∷ (bodies_from p homes (n + 1) b new fs).functions) k
      ∙ (ap (λ x. done ++ func_of f (made_here p homes n op m f) ∷ (bodies_from p homes (n + 1) (made_here p homes n op m f).counts.op x fs).functions) e
      ∙ sym (ap (λ b. done ++ (bodies_by p homes n op m f fs b).functions) h))));
  ops = λ fs. ap (λ b. (bodies_from p homes (n + 1) b new fs).ops) k
      ∙ (ap (λ x. (bodies_from p homes (n + 1) (made_here p homes n op m f).counts.op x fs).ops) e
      ∙ sym (ap (λ b. (bodies_by p homes n op m f fs b).ops) h));
}

pub body_skipped : (p : Program) (homes : Homes) (n op : ℕ) (f : Function) (m : Numbering) (done : List Func) → slice_index_or (reached p) n false ≡ false → AddsBody p homes n op op f m m done done
body_skipped p homes n op f m done h = record {
  functions = λ fs. sym (ap (λ b. done ++ (bodies_by p homes n op m f fs b).functions) h);
  ops = λ fs. sym (ap (λ b. (bodies_by p homes n op m f fs b).ops) h);
}
