use Rattle.ti_txt.specs.Bytes.{blocks_of}
use Rattle.certificate.specs.Rows.{function_of}
use Rattle.certificate.specs.Whole.{certificate_of}
use Rattle.cert_check.proofs.Ready.{ready, starts_rise, heads_rise, addresses_rise}
use Rattle.cert_check.proofs.checking.sweep_function.Goals as goal

pub sweep-requires : goal.sweep-requires
sweep-requires c = ready (blocks_of c.args.img.now) (certificate_of c.args.c.now) c.args.b.now c.args.is_first (function_of c.args.here.now) c.args.c.now.ruled c.requires

pub invariant_of-t : goal.invariant_of-t
invariant_of-t c = record {
  starts = starts_rise 0 c.args.c.now.functions.items c.args.c.now.ruled.functions;
  heads = heads_rise 0 c.args.c.now.stretches.items c.args.c.now.ruled.stretches;
  addresses = addresses_rise 0 c.args.c.now.points.items c.args.c.now.ruled.points;
}
