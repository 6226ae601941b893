use Rattle.std.proofs.Common.{◌≡◌, length, refl, sym, subst, arith}
use Rattle.msp430_machine.specs.First.{HoldsBlocks, IsFirst}
use Rattle.msp430_machine.specs.Loading.{IsLoaded}
use Rattle.msp430_machine.specs.Views.{Cells, state_of}
use Rattle.run_job.specs.InCode.{held_in}
use Rattle.run_job.proofs.Boxes.{kept_loaded}
use Rattle.run_job.proofs.opened_run.loaded.Goals as goal

pub returns : goal.returns
returns g c =
    let image = (held_in c.args.contents).image in
    let same = sym c.new.ensures.machine in
    let number : c.len-count.result ≡ length c.args.contents.rows.items = omega (arith, c.len-count.ensures, c.args.contents.rows.ok.0) in
    record {
      is_first = subst (λ (m : Cells). IsFirst (state_of m)) same c.in_ok-machine.ensures.first;
      holds = subst (λ (m : Cells). HoldsBlocks (state_of m) image) same c.in_ok-machine.ensures.holds;
      is_loaded = subst (λ (m : Cells). IsLoaded image (state_of m)) same c.in_ok-machine.ensures.loaded;
      fresh = c.new.ensures.counts;
      boxes =
          kept_loaded (λ b. (goal.Supply-dyn g (b.vtable, b.value)).rows_left b.value) (λ b. (goal.Supply-dyn g (b.vtable, b.value)).supply_faults b.value)
          c.args.supplies.now.items c.load_each.new.supplies.items c.truncate.new.self.items c.args.contents.rows.items (λ v. v.items) c.len-count.result
          number c.requires c.in_ok-load_each.ensures c.truncate.ensures.items;
      board = refl;
      input = refl;
      steps_are = refl;
    }
