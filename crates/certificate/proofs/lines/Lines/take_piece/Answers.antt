use Rattle.std.proofs.Common.{◌≡◌, ◌==◌, ◌++◌, false, ap, map, sym, subst, rules}
use Rattle.std.specs.List.{list_any}
use Rattle.certificate.specs.Texts.{Lacks}
use Rattle.certificate.specs.Reading.{line_of_row}
use Rattle.certificate.proofs.Unfinished.{goes_on, longer_lacks}
use Rattle.certificate.proofs.lines.Lines.take_piece.Goals as goal

pub invariant_of-self-then-not-has_line_feed : goal.invariant_of-self-then-not-has_line_feed
invariant_of-self-then-not-has_line_feed c =
    let e : c.extend_from_slice.new.self.items ≡ c.self.inside.line.items ++ c.args.piece.now = search rules in
    let n : list_any (λ b. b == 10) c.args.piece.now ≡ false = search rules in
    subst (Lacks 10) (sym e) (longer_lacks c.self.inside.line.items c.args.piece.now c.self.invariant n)

pub returns-then-not-has_line_feed : goal.returns-then-not-has_line_feed
returns-then-not-has_line_feed c =
    let e : c.extend_from_slice.new.self.items ≡ c.self.inside.line.items ++ c.args.piece.now = search rules in
    let n : list_any (λ b. b == 10) c.args.piece.now ≡ false = search rules in
    goes_on c.args.self.now c.self.inside.bad c.self.inside.stage c.self.inside.at c.self.inside.line.items c.args.piece.now c.extend_from_slice.new.self.items
    (map line_of_row c.new.result.items) (sym c.self.view_is) c.in_default.is c.self.invariant n e (ap (map line_of_row) c.new.ensures.items)
