use Rattle.cert_images.proofs.Certifying.{each_images_certified, graph_images_certified, rows_are_of_heads}
use Rattle.cert_images.proofs.laws.each_images_certified.Goals as goal

pub returns-clause-graphs : goal.returns-clause-graphs
returns-clause-graphs c = graph_images_certified

pub returns-clause-each : goal.returns-clause-each
returns-clause-each c = each_images_certified

pub returns-clause-rows : goal.returns-clause-rows
returns-clause-rows c = rows_are_of_heads
