use Rattle.lowered_images.proofs.Kept.{images, images_agree, images_endure, images_held, images_work}
use Rattle.lowered_images.proofs.law.lowered_images_agree.Goals as goal

pub returns-clause-agrees : goal.returns-clause-agrees
returns-clause-agrees c =
    let law = c.each_images_agree.ensures in
    images_agree c.lowered_graphs_carry.ensures.is_each law.agree law.works law.endure law.heads law.is_image law.is_held

pub returns-clause-works : goal.returns-clause-works
returns-clause-works c =
    let law = c.each_images_agree.ensures in
    images_work c.lowered_graphs_carry.ensures.is_each law.agree law.works law.endure law.heads law.is_image law.is_held

pub returns-clause-endures : goal.returns-clause-endures
returns-clause-endures c =
    let law = c.each_images_agree.ensures in
    images_endure c.lowered_graphs_carry.ensures.is_each law.agree law.works law.endure law.heads law.is_image law.is_held

pub returns-clause-is_image : goal.returns-clause-is_image
returns-clause-is_image c =
    let law = c.each_images_agree.ensures in
    images c.lowered_graphs_carry.ensures.is_each law.agree law.works law.endure law.heads law.is_image law.is_held

pub returns-clause-is_held : goal.returns-clause-is_held
returns-clause-is_held c =
    let law = c.each_images_agree.ensures in
    images_held c.lowered_graphs_carry.ensures.is_each law.agree law.works law.endure law.heads law.is_image law.is_held
