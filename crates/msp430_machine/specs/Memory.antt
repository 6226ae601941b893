-- Words and bytes in memory, and what reads and writes of the ports do.
use Rattle.std.specs.Prelude.{ℕ, ◌+◌, ◌-◌, ◌*◌, ◌/◌, ◌%◌, ◌==◌, if◌then◌else◌, Bool, true, false, List, Option, Some, None}
use Rattle.msp430_machine.specs.Addresses.{out_port, end_port, sram_start, code_start, Region, Ports, Sram, Fram, Code, Empty, region}
use Rattle.msp430_machine.specs.State.{Ended, Trapped, State, set_at, input_word}

-- a word, or its low byte
abbrev pub at_width : Bool → ℕ → ℕ
at_width true v = v % 256
at_width false v = v

-- the word of memory at an even address, or the one that the byte at an odd address is the upper half of
abbrev pub word_in : Region → State → ℕ → ℕ
word_in Sram s a = s.sram ((a - sram_start) / 2)
word_in Fram s a = s.fram (a / 2)
word_in Code s a = s.code ((a - code_start) / 2)
word_in Ports s a = 0
word_in Empty s a = 0

abbrev pub word_at : State → ℕ → ℕ
word_at s a = word_in (region a) s a

-- the half of a word that is the byte at this address: the lower one at even addresses
abbrev pub half : ℕ → ℕ → ℕ
half a w = if a % 2 == 0 then w % 256 else w / 256

abbrev pub with_half : ℕ → ℕ → ℕ → ℕ
with_half a w v = if a % 2 == 0 then w / 256 * 256 + v else w % 256 + 256 * v

abbrev pub byte_at : State → ℕ → ℕ
byte_at s a = half a (word_at s a)

-- the byte or the word at an address of memory
abbrev pub value_at : Bool → State → ℕ → ℕ
value_at true s a = byte_at s a
value_at false s a = word_at s a

-- Reading as a source: of the ports only IN is read, which gives the next input word.
abbrev pub read_in : Region → List ℕ → Bool → State → ℕ → ℕ
read_in Ports input byte s a = at_width byte (input_word input s.taken)
read_in Sram input byte s a = value_at byte s a
read_in Fram input byte s a = value_at byte s a
read_in Code input byte s a = value_at byte s a
read_in Empty input byte s a = value_at byte s a

abbrev pub read : List ℕ → Bool → State → ℕ → ℕ
read input byte s a = read_in (region a) input byte s a

-- the state behind a read
abbrev pub after_read_in : Region → State → State
after_read_in Ports s = record s { taken = s.taken + 1 }
after_read_in Sram s = s
after_read_in Fram s = s
after_read_in Code s = s
after_read_in Empty s = s

abbrev pub after_read : State → ℕ → State
after_read s a = after_read_in (region a) s

-- Writing a word. Of the ports END and TRAP stop the machine; a word that is put is no part of the state.
abbrev pub sent_to : State → ℕ → ℕ → State
sent_to s a v =
    if a == out_port then s
    else if a == end_port then record s { phase = Ended v }
    else record s { phase = Trapped v }

abbrev pub written_in : Region → State → ℕ → ℕ → State
written_in Sram s a w = record s { sram = set_at s.sram ((a - sram_start) / 2) w }
written_in Fram s a w = record s { fram = set_at s.fram (a / 2) w }
written_in Code s a w = s
written_in Ports s a w = sent_to s a w
written_in Empty s a w = s

abbrev pub written : Bool → State → ℕ → ℕ → State
written true s a v = written_in (region a) s a (with_half a (word_at s a) v)
written false s a v = written_in (region a) s a v

-- the word that a write of v puts, if it goes to OUT
abbrev pub put_in : Region → ℕ → ℕ → Option ℕ
put_in Ports a v = if a == out_port then Some v else None
put_in Sram a v = None
put_in Fram a v = None
put_in Code a v = None
put_in Empty a v = None

abbrev pub put_at : ℕ → ℕ → Option ℕ
put_at a v = put_in (region a) a v
