-- What the image of a typed program keeps whose `main` calls no function of the program.
use Rattle.std.specs.Prelude.{◌≤◌, List}
use Rattle.board_table.specs.declared.board.Board.{Board}
use Rattle.ti_txt.specs.Image.{Block, IsImage}
use Rattle.c_tree.specs.Meaning.{meaning}
use Rattle.c_tree.specs.declared.tree.Program.{Program}
use Rattle.sound_programs.specs.SoundPrograms.{IsSound}
use Rattle.sound_programs.specs.Scoped.{IsScoped}
use Rattle.msp430_machine.specs.State.{State}
use Rattle.msp430_machine.specs.First.{IsFirst, HoldsBlocks}
use Rattle.power_core.specs.Agreement.{Agrees}
use Rattle.power_core.specs.Enduring.{Endures}
use Rattle.lowered_graphs.specs.GraphOf.{graph_of, operations}
use Rattle.graph_code.specs.Order.{IsAlone}
use Rattle.each_image.specs.Each.{each_heads}
use Rattle.each_image.specs.Laws.{ChargesWork}
use Rattle.emit_each.specs.Emitting.{IsEmitted}

-- The image of the graph of a program, which is sound and in scope, has no more operations than a graph may have, and whose `main` calls none
-- of its functions.
pub record IsImageOf (b : Board) (p : Program) (image : List Block) : Type 0 where
  pub sound : IsSound p
  pub scoped : IsScoped p
  pub few : operations p ≤ 4096
  pub alone : IsAlone (graph_of p)
  pub emitted : IsEmitted b (graph_of p) image

-- It agrees with the plain meaning of the program.
abbrev pub LoweredImagesAgree : Type 0
LoweredImagesAgree = (b : Board) (p : Program) (image : List Block) → IsImageOf b p image → Agrees (meaning p) p.nodes image b

-- Along each run of it over refills that each reach the budget the device shows each operation of the program's graph, and each charge that
-- another refill follows does at least one.
abbrev pub LoweredImagesWork : Type 0
LoweredImagesWork = (b : Board) (p : Program) (image : List Block) → IsImageOf b p image → ChargesWork b (each_heads b (graph_of p)) (graph_of p) image

-- It endures any supply.
abbrev pub LoweredImagesEndure : Type 0
LoweredImagesEndure = (b : Board) (p : Program) (image : List Block) → IsImageOf b p image → Endures (meaning p) p.nodes image b

-- It is an image: its blocks ascend, don't touch, and lie in FRAM.
abbrev pub AreLoweredImages : Type 0
AreLoweredImages = (b : Board) (p : Program) (image : List Block) → IsImageOf b p image → IsImage image

-- Some device can be loaded with it, so that there are runs of it.
abbrev pub AreLoweredHeld : Type 0
AreLoweredHeld = (b : Board) (p : Program) (image : List Block) → IsImageOf b p image → (s : State) × IsFirst s × HoldsBlocks s image
