-- The image of sections is that of their code, line by line, and its room is theirs.
use Rattle.std.proofs.Common.{◌≡◌, List, ◌++◌, length, flat_map, refl, arith}
use Rattle.msp430_isa.specs.declared.instr.Instr.{Instr}
use Rattle.msp430_isa.specs.Encoding.{words_of}
use Rattle.resumed_runs.specs.Code.{boot}
use Rattle.each_image.specs.Image.{data_blocks}
use Rattle.each_image.proofs.Places.{size-append, size_is}
use Rattle.chain_units.specs.Known.{Known}
use Rattle.plan_code.specs.Sections.{Section}
use Rattle.plan_code.specs.PlanBlocks as plan
use Rattle.plan_code.specs.PlanBlocks.{code_from}
use Rattle.plan_image.proofs.Positioned as positioned
use Rattle.stretched_code.proofs.LinedImage.{code_blocks}

module _ (k : Known) (ss : List Section) where
  -- the code behind boot
  abbrev pub sections_code : List Instr
  sections_code = code_from k ss (plan.address_of k ss) 9 (plan.positions k ss)

  pub blocks_are : plan.blocks k ss ≡ code_blocks (data_blocks k.graph) sections_code
  blocks_are = refl

  -- the words of the whole code are those up to the end of the last position
  pub room_is : length (flat_map words_of (boot ++ sections_code)) ≡ plan.code_words k ss
  room_is =
      let sized = size_is (boot ++ sections_code) in
      let both = size-append boot sections_code in
      let end = positioned.size_is k ss (plan.address_of k ss) (λ n. 0) 9 (plan.positions k ss) in
      omega (arith, sized, both, end)
