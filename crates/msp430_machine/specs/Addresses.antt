-- What stands at which address: the memory map of the MSP430FR5969, and this profile's ports and words. The code has the
-- same names in src/addresses.rt.
use Rattle.std.specs.Prelude.{ℕ, nat_lt, if◌then◌else◌}
-- what an address belongs to
pub use Rattle.msp430_machine.specs.declared.addresses.Region.{Region}
pub use Rattle.msp430_machine.specs.declared.addresses.Region.TheVariants.{Ports, Sram, Fram, Code, Empty}

-- an input word is read here, and words written here are put, or end the program, or trap
abbrev pub in_port : ℕ
in_port = 0x0F00

abbrev pub out_port : ℕ
out_port = 0x0F02

abbrev pub end_port : ℕ
end_port = 0x0F04

abbrev pub trap_port : ℕ
trap_port = 0x0F06

-- the words that the code at 0x8000 resumes a program from
abbrev pub gate : ℕ
gate = 0x1800

abbrev pub resume : ℕ
resume = 0x1802

abbrev pub saved_sp : ℕ
saved_sp = 0x1804

-- a cold wake begins at the address that stands here
abbrev pub reset_vector : ℕ
reset_vector = 0xFFFE

-- ---- Where regions begin, and where they end: the first address behind them. FRAM goes on from its start to the code.

abbrev pub ports_start : ℕ
ports_start = 0x0F00

abbrev pub ports_end : ℕ
ports_end = 0x0F08

-- information FRAM
abbrev pub info_start : ℕ
info_start = 0x1800

abbrev pub info_end : ℕ
info_end = 0x1A00

abbrev pub sram_start : ℕ
sram_start = 0x1C00

abbrev pub sram_end : ℕ
sram_end = 0x2400

abbrev pub fram_start : ℕ
fram_start = 0x4400

-- code goes on to the end of memory, and no instruction may write there
abbrev pub code_start : ℕ
code_start = 0x8000

-- no word of an instruction lies here or above
abbrev pub fetch_end : ℕ
fetch_end = 0xFF80

abbrev pub region : ℕ → Region
region a =
    if nat_lt a ports_start then Empty
    else if nat_lt a ports_end then Ports
    else if nat_lt a info_start then Empty
    else if nat_lt a info_end then Fram
    else if nat_lt a sram_start then Empty
    else if nat_lt a sram_end then Sram
    else if nat_lt a fram_start then Empty
    else if nat_lt a code_start then Fram
    else Code
