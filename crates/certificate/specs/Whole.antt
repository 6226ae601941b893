-- What a certificate says, without where it lies in the program's own memory.
use Rattle.certificate.specs.declared.cert.Cert.{Cert}
use Rattle.certificate.specs.Rows.{Certificate, certificate_from}

abbrev pub certificate_of : Cert → Certificate
certificate_of c = certificate_from c.budget c.functions.items c.stretches.items c.points.items
