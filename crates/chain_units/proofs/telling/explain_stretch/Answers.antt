use Rattle.std.specs.Prelude.{map}
use Rattle.std.proofs.Common.{List}
use Rattle.chain_units.specs.declared.explaining.Explained.{Explained}
use Rattle.chain_units.specs.Explained.{IsExplained, IsStretchExplained}
use Rattle.chain_units.specs.Known.{nothing}
use Rattle.chain_units.specs.Marks.{ChainUnit}
use Rattle.chain_units.specs.Pieces.{ArePieces, first_in, pieces_behind, pieces_first, pieces_sum, pieces_touched}
use Rattle.chain_units.proofs.ExplainedUnits.{if_ok, stretch_explained}
use Rattle.chain_units.proofs.telling.explain_stretch.Goals as goal

pub returns : goal.returns
returns g c =
    let k = g.K.Knowledge.known c.args.k.now in
    let part = c.part_of-part.result.now in
    if_ok (λ (e : Explained). IsExplained k k.overhead 0 (map first_in part) (pieces_touched part) (pieces_first part) (pieces_behind part) (pieces_sum nothing part) c.deref.result.now e)
    (λ (e : Explained). (us : List ChainUnit) → ArePieces k us c.args.pieces.now → IsStretchExplained k us c.args.stretch.now e) c.explain_pieces.result
    (λ e told us are. stretch_explained k us c.args.pieces.now part c.args.stretch.now c.deref.result.now e c.part_of-part.ensures c.deref.ensures.value are told) c.explain_pieces.ensures
