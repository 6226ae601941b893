use Rattle.std.proofs.Common.{refl, rules}
use Rattle.msp430_machine.proofs.Held.{held}
use Rattle.msp430_machine.proofs.Loading.{word_loaded}
use Rattle.msp430_machine.proofs.machine.Machine.load.Goals as goal

pub returns-clause-holds : goal.returns-clause-holds
returns-clause-holds c = held c.in_ok-bytes.bytes.items _ _ c.args.img.now.ordered (record { small = search rules; fram = search rules; code = search rules }) c.in_ok-bytes.ensures.bytes

pub returns-clause-loaded : goal.returns-clause-loaded
returns-clause-loaded c = record {
  off = refl;
  no_charge = refl;
  none_taken = refl;
  registers = search rules;
  flags = refl;
  other_bits = refl;
  sram = c.in_ok-sram.ensures.zero;
  fram = word_loaded _ c.in_ok-bytes.bytes.items _ 0 c.in_ok-bytes.ensures.bytes (search rules) (search rules);
  code = word_loaded _ c.in_ok-bytes.bytes.items _ 0x8000 c.in_ok-bytes.ensures.bytes (search rules) (search rules);
}
