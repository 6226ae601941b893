use Rattle.std.specs.Prelude.{string_bytes}
use Rattle.build_job.specs.InCode.{build_named}
use Rattle.build_job.proofs.Writing.{written}
use Rattle.build_job.proofs.image_file.build.Goals as goal

pub returns-in-Ok : goal.returns-in-Ok
returns-in-Ok g c =
    written (build_named c.args.job.now)
    (record { files = g.S.Store.files c.args.store.now; reads = g.S.Store.read_faults c.args.store.now; writes = g.S.Store.write_faults c.args.store.now; bad = g.S.Store.bad_name c.args.store.now })
    (record { files = g.S.Store.files c.ready.new.store; reads = g.S.Store.read_faults c.ready.new.store; writes = g.S.Store.write_faults c.ready.new.store; bad = g.S.Store.bad_name c.ready.new.store })
    (record { files = g.S.Store.files c.write.new.store; reads = g.S.Store.read_faults c.write.new.store; writes = g.S.Store.write_faults c.write.new.store; bad = g.S.Store.bad_name c.write.new.store })
    c.in-Ok.ensures.files c.in-Ok.ensures.writes c.in-Ok.ensures.counts
    c.in-Ok.ready.text.items (string_bytes c.in-Ok.ready.line) c.in-Ok.ensures.told c.in-Ok.ensures.line c.write.result c.write.ensures
