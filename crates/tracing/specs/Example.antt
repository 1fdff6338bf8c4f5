-- A trace, computed from the definitions: all that `trace` writes of it.
use Rattle.std.specs.Prelude.{ℕ, ◌≡◌, refl, List, [], ◌∷◌, ◌++◌, take}
use Rattle.model.specs.Refusals.{first, any}
use Rattle.model.specs.Ring.{distance, waiting, room}
use Rattle.model.specs.Pixel.{read_pixel}
use Rattle.model.specs.Calls.{unfit, setup, publish, restart, ask_room}
use Rattle.text.specs.Ascii.{ascii}
use Rattle.text.specs.Numerals.{decimal, hexadecimal}
use Rattle.text.specs.Lines.{call_line}
use Rattle.crc.specs.Crc.{crc_bit, crc_byte, crc_over, crc32}
use Rattle.recording.specs.Recording.{file_word}
use Rattle.recording.specs.Example.{bytes_of}
use Rattle.tracing.specs.Trace.{asked, asked_frame, step_of, begin_of, trace_text}

-- "records of three words `op a b`"
abbrev pub short_trace : List ℕ
short_trace = bytes_of (1024 ∷ 16 ∷ 1 ∷ 17 ∷ 0 ∷ 3 ∷ 0 ∷ 0 ∷ 4 ∷ 0 ∷ 0 ∷ [])

pub record Example : Type 0 where
  -- a trace: publishing 17, asking for room, and a restart where nothing is stopped, in a ring of 1,024 with 16 bytes of frame
  -- memory, whose CRC-32 any zip program gives; then the same cut short by a byte
  pub trace : trace_text short_trace ≡
      ascii "call=setup answer=0 units=0 room=1023 read=0 write=0 retired=0 stop=0 drawing=none\n"
      ++ ascii "call=publish answer=0 units=0 room=1006 read=0 write=17 retired=0 stop=0 drawing=none\n"
      ++ ascii "call=room answer=0 units=0 room=1006 read=0 write=17 retired=0 stop=0 drawing=none\n"
      ++ ascii "call=restart answer=refused-7 units=0 room=0 read=0 write=17 retired=0 stop=0 drawing=none\n"
      ++ ascii "frame_crc32=ecbb4b55\n"
  pub cut : trace_text (take 43 short_trace) ≡
      ascii "call=setup answer=0 units=0 room=1023 read=0 write=0 retired=0 stop=0 drawing=none\n"
      ++ ascii "call=publish answer=0 units=0 room=1006 read=0 write=17 retired=0 stop=0 drawing=none\n"
      ++ ascii "call=room answer=0 units=0 room=1006 read=0 write=17 retired=0 stop=0 drawing=none\n"
      ++ ascii "recording=bad\n"

pub example : Example
unfolding first any distance waiting room read_pixel unfit setup publish restart ask_room decimal hexadecimal file_word asked asked_frame step_of begin_of trace_text call_line crc_bit crc_byte crc_over crc32
example = record { trace = refl; cut = refl }
