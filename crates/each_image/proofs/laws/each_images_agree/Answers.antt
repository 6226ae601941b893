use Rattle.each_image.proofs.Agreeing.{each_charges_work, each_images_agree, each_images_endure}
use Rattle.each_image.proofs.Ascending.{are_images}
use Rattle.each_image.proofs.EachHeads.{each_heads_stand}
use Rattle.each_image.proofs.Holding.{are_held}
use Rattle.each_image.proofs.Stretches.{overhead_is}
use Rattle.each_image.proofs.laws.each_images_agree.Goals as goal

pub returns-clause-agree : goal.returns-clause-agree
returns-clause-agree c = each_images_agree

pub returns-clause-endure : goal.returns-clause-endure
returns-clause-endure c = each_images_endure

pub returns-clause-heads : goal.returns-clause-heads
returns-clause-heads c = each_heads_stand

pub returns-clause-is_image : goal.returns-clause-is_image
returns-clause-is_image c = are_images

pub returns-clause-is_held : goal.returns-clause-is_held
returns-clause-is_held c = are_held

pub returns-clause-overhead : goal.returns-clause-overhead
returns-clause-overhead c = overhead_is

pub returns-clause-works : goal.returns-clause-works
returns-clause-works c = each_charges_work
