use Rattle.std.proofs.Common.{map}
use Rattle.certificate.specs.Reading.{line_of_row}
use Rattle.certificate.proofs.Place.{room_left}
use Rattle.certificate.proofs.lines.Lines.feed.Goals as goal

pub returns-clause-room : goal.returns-clause-room
returns-clause-room c = λ more h. room_left (λ rows. map line_of_row rows.items) c.take_piece.result _ _ c.args.piece.now more c.take_piece.ensures h
