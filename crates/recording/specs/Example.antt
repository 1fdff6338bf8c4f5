-- Document 01's example, computed from the definitions: the bytes of its recording, and all that `replay` and `frame` write of it.
use Rattle.std.specs.Prelude.{ℕ, ◌/◌, ◌%◌, ◌≡◌, refl, List, [], ◌∷◌, ◌++◌}
use Rattle.model.specs.Refusals.{first, any}
use Rattle.model.specs.Ring.{distance, waiting, room, word_at}
use Rattle.model.specs.Formats.{format_of}
use Rattle.model.specs.Pixel.{read_pixel, store_pixel}
use Rattle.model.specs.Raster.{raster}
use Rattle.model.specs.Bounds.{byte_outside, some, outside}
use Rattle.model.specs.Completion.{retired}
use Rattle.model.specs.Rectangle.{pixel_byte}
use Rattle.model.specs.Operands.{draw_operands}
use Rattle.model.specs.BltPixel.{rectangle_of, source_of, pattern_of, color_pattern_of, blt_of, source_value, with_pattern, with_source, operands_at, draw_at, blt_at, draw_blt, draw_tiled}
use Rattle.model.specs.Host.{straddles}
use Rattle.model.specs.Command.{kind_of, bad_header, drawn_by, bad_return, whole_words, read_after, load_words, loaded}
use Rattle.model.specs.Judging.{judge}
use Rattle.model.specs.Unit.{header_refusal, command_refusal, needed, ready, stopped, loaded_core, pixel_count, draw_pixel, drawn_core, command_unit, unit_at, unit, possible, units}
use Rattle.model.specs.Calls.{unfit, run_word, run_refusal, run_units, ran_answer, run, run_frame, setup, publish}
use Rattle.model.specs.Cases.{size, shop_ring, shop_frame}
use Rattle.text.specs.Ascii.{ascii}
use Rattle.text.specs.Numerals.{decimal}
use Rattle.text.specs.Lines.{replay_lines}
use Rattle.recording.specs.Replay.{played, played_frame, replay, replay_frame}
use Rattle.recording.specs.Recording.{file_word, bad_recording, replayed, replayed_frame, replay_text, frame_bytes}

-- little-endian words as bytes
abbrev pub bytes_of : List ℕ → List ℕ
bytes_of [] = []
bytes_of (w ∷ ws) = w % 256 ∷ w / 256 % 256 ∷ w / 65_536 % 256 ∷ w / 16_777_216 % 256 ∷ bytes_of ws

-- "Ring 64, frame 64, write 17, budget 100, one BLT at 0, solid F0h fill, 8 bpp, 4 by 2, offset 10, stride 16, colour 5Ah": the
-- ring is the least, since W4 1,024 words, so the file has 1,028
abbrev pub example_file : List ℕ
example_file = bytes_of (size ∷ 64 ∷ 17 ∷ 100 ∷ shop_ring)

pub record Example : Type 0 where
  -- "the whole output is"
  pub lines : replay_text example_file ≡ ascii "retired=1\nunits=9\nread=17\nwrite=17\nstate=waiting\nrefusal=0\n"
  -- "bytes 10 to 13 and 26 to 29 become 5Ah"
  pub frame : frame_bytes example_file ≡ shop_frame
  -- "a file that isn't exactly 4 + ring length words gives the one line `recording=bad`": one byte more
  pub longer : replay_text (example_file ++ (0 ∷ [])) ≡ ascii "recording=bad\n"

pub example : Example
unfolding first any distance waiting room word_at read_pixel store_pixel raster format_of byte_outside some outside pixel_byte rectangle_of source_of pattern_of color_pattern_of blt_of source_value with_pattern with_source operands_at draw_operands draw_at blt_at draw_blt draw_tiled straddles kind_of bad_header drawn_by bad_return whole_words read_after load_words loaded judge retired header_refusal command_refusal needed ready stopped loaded_core pixel_count draw_pixel drawn_core command_unit unit_at unit possible units unfit setup publish run_word run_refusal run_units ran_answer run run_frame decimal replay_lines played played_frame replay replay_frame file_word bad_recording replayed replayed_frame replay_text frame_bytes
example = record { lines = refl; frame = refl; longer = refl }
