-- The image keeps every rule for the certificate made.
use Rattle.std.proofs.Common.{◌≡◌, List, sym, subst}
use Rattle.std.specs.Prelude.{Result, Ok, Err, IfOk}
use Rattle.base_io.specs.declared.memory.Memory.{Memory}
use Rattle.board_table.specs.declared.board.Board.{Board}
use Rattle.ti_txt.specs.Image.{Block}
use Rattle.certificate.specs.Rows.{Certificate}
use Rattle.certificate.specs.Whole.{certificate_of}
use Rattle.certificate.specs.declared.cert.Cert.{Cert}
use Rattle.cert_rules.specs.Sweep.{Certified}
use Rattle.flow_graph.specs.declared.graph.Graph.{Graph}
use Rattle.flow_graph.specs.Rules.{IsGraph}
use Rattle.graph_code.specs.Order.{IsAlone}
use Rattle.emit_each.specs.Emitting.{IsEmitted}
use Rattle.cert_images.specs.Images.{each_certificate}
use Rattle.cert_images.proofs.Certifying.{each_images_certified}

pub certified_ok : (b : Board) (g : Graph) (rules : IsGraph g) (alone : IsAlone g) (r : Result Cert Memory) → IfOk r (λ c. certificate_of c ≡ each_certificate b g)
    → IfOk r (λ c. (blocks : List Block) → IsEmitted b g blocks → Certified blocks (certificate_of c) b)
certified_ok b g rules alone (Ok c) e = λ blocks is. subst (λ (x : Certificate). Certified blocks x b) (sym e) (each_images_certified b g blocks rules alone is)
certified_ok b g rules alone (Err m) e = tt
