use Rattle.std.proofs.Common.{map}
use Rattle.certificate.specs.Reading.{line_of_row}
use Rattle.certificate.proofs.Made.{faulty_bad, faulty_line, faulty_only, is_ended, made_bad, made_holds, made_line, made_only}
use Rattle.certificate.proofs.reading.read.Goals as goal

pub cert_of-requires : goal.cert_of-requires
cert_of-requires c = let h = is_ended c.args.bytes.now (map line_of_row c.in-Ok.rows.items) c.in-Ok.ensures in (h.whole, h.holds.is, h.list)

pub returns-in-Ok-clause-holds : goal.returns-in-Ok-clause-holds
returns-in-Ok-clause-holds c = made_holds c.cert_of.result (map line_of_row c.in-Ok.rows.items) c.args.bytes.now c.cert_of.ensures c.in-Ok.ensures

pub returns-in-Ok-clause-bad_line : goal.returns-in-Ok-clause-bad_line
returns-in-Ok-clause-bad_line c = made_bad c.cert_of.result (map line_of_row c.in-Ok.rows.items) c.args.bytes.now c.cert_of.ensures

pub returns-in-Ok-clause-only_certificate : goal.returns-in-Ok-clause-only_certificate
returns-in-Ok-clause-only_certificate c = made_only c.cert_of.result (map line_of_row c.in-Ok.rows.items) c.args.bytes.now c.cert_of.ensures c.in-Ok.ensures

pub returns-in-Ok-clause-only_line : goal.returns-in-Ok-clause-only_line
returns-in-Ok-clause-only_line c = made_line c.cert_of.result (map line_of_row c.in-Ok.rows.items) c.args.bytes.now c.in-Ok.ensures

pub returns-in-Err-clause-bad_line : goal.returns-in-Err-clause-bad_line
returns-in-Err-clause-bad_line c = faulty_bad c.in-Err.fault c.args.bytes.now c.in-Err.ensures

pub returns-in-Err-clause-only_certificate : goal.returns-in-Err-clause-only_certificate
returns-in-Err-clause-only_certificate c = faulty_only c.in-Err.fault c.args.bytes.now c.in-Err.ensures

pub returns-in-Err-clause-only_line : goal.returns-in-Err-clause-only_line
returns-in-Err-clause-only_line c = faulty_line c.in-Err.fault c.args.bytes.now c.in-Err.ensures
