use Rattle.std.proofs.Common.{◌≡◌, ◌==◌, ◌∙◌, ℕ, true, false, List, length, sym, ap, Vec, vec_len}
use Rattle.std.specs.declared.alloc.Global.{Global}
use Rattle.chain_units.specs.declared.pieces.Piece.{Piece}
use Rattle.chain_units.proofs.Closing.{closed_some, on_ok}
use Rattle.chain_units.proofs.cutting.close.Goals as goal

pub returns : goal.returns
returns c =
    on_ok c.put_run.result (λ pushed. record {
      pieces = ap (λ (v : Vec Piece Global). v.items) c.replace-pieces.ensures.after ∙ c.new.ensures.items;
      runs = closed_some c.args.placer.now.pieces.items c.args.placer.now.runs.items c.put_run.new.runs.items c.replace-pieces.result
          (λ e.
          let count : vec_len c.args.placer.now.pieces ≡ length c.args.placer.now.pieces.items = c.args.placer.now.pieces.ok.0 in
          let none : vec_len c.args.placer.now.pieces ≡ 0 = count ∙ ap (λ (ps : List Piece). length ps) e in
          let is : (vec_len c.args.placer.now.pieces == 0) ≡ true = ap (λ (n : ℕ). n == 0) none in
          let not : (vec_len c.args.placer.now.pieces == 0) ≡ false = sym c.is_empty.ensures ∙ c.if-is_empty.false in
          absurd (cc))
          (ap (λ (v : Vec Piece Global). v.items) c.replace-pieces.ensures.value) pushed;
    }) c.put_run.ensures
