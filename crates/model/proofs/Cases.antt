-- What is proved of specs/Cases.
use Rattle.std.specs.Prelude.{refl}
use Rattle.model.specs.Refusals.{first, any}
use Rattle.model.specs.Formats.{format_of}
use Rattle.model.specs.Bounds.{byte_outside, some, outside, least, greatest, extent}
use Rattle.model.specs.Rectangle.{pixel_byte}
use Rattle.model.specs.Pixel.{read_pixel, store_pixel}
use Rattle.model.specs.Ring.{distance, waiting, room, word_at}
use Rattle.model.specs.Lookup.{bad_count, next_index, index_after, data_stored, tile_byte, tile_value, tile_color}
use Rattle.model.specs.Raster.{raster}
use Rattle.model.proofs.Raster.{raster_source, raster_pattern, raster_destination, raster_pattern_xor, raster_source_xor}
use Rattle.model.specs.Pattern.{pattern_byte, pattern_bit, pattern_index}
use Rattle.model.specs.Expansion.{source_bit, expand}
use Rattle.model.specs.Operands.{draw_operands}
use Rattle.model.specs.BltPixel.{rectangle_of, bytes_of, mono_source_of, source_of, pattern_of, color_pattern_of, blt_of, source_value, mono_bit, with_pattern, with_source, operands_at, draw_at, color_at, blt_at, draw_from, draw_blt, draw_tiled}
use Rattle.model.specs.Host.{host_of, host_byte, host_pixel, host_word, straddles, host_value, draw_host}
use Rattle.model.specs.VectorPixel.{signed16, vector_of, axial_step, diagonal_step, step, position, vector_byte, draw_vector}
use Rattle.model.specs.Command.{kind_of, bad_header, drawn_by, bad_return, bad_data_word, whole_words, read_after, load_words, loaded, loaded_table}
use Rattle.model.specs.Judging.{judge}
use Rattle.model.specs.Completion.{retired}
use Rattle.model.specs.Unit.{header_refusal, command_refusal, needed, ready, stopped, loaded_core, table_after, pixel_count, draw_pixel, drawn_core, fed_word, fed_core, taken_core, command_unit, unit_at, unit, possible, units}
use Rattle.model.specs.Calls.{unfit, setup, publish, restart, ask_room, run_word, run_refusal, run_units, ran_answer, run, run_frame}
use Rattle.model.specs.Cases.{Cases, Further, Recorded}

-- ---- all of it

pub cases : Cases × Further × Recorded
unfolding first any pattern_bit pattern_byte pattern_index distance waiting room word_at bad_count next_index index_after data_stored tile_byte tile_value tile_color read_pixel store_pixel raster format_of byte_outside some outside least greatest extent pixel_byte rectangle_of bytes_of mono_source_of source_of pattern_of color_pattern_of blt_of source_bit expand source_value mono_bit with_pattern with_source operands_at draw_operands draw_at color_at blt_at draw_blt draw_tiled signed16 vector_of axial_step diagonal_step step position vector_byte draw_vector kind_of bad_header drawn_by bad_return whole_words read_after load_words loaded loaded_table judge host_of host_byte host_pixel host_word straddles host_value draw_from draw_host bad_data_word retired header_refusal command_refusal needed ready stopped loaded_core table_after pixel_count draw_pixel drawn_core fed_word fed_core taken_core command_unit unit_at unit possible units unfit setup publish restart ask_room run_word run_refusal run_units ran_answer run run_frame
cases = (
  record {
    code_5_a = λ s. raster_pattern_xor 8 0xFF s 0xF0;
    code_66 = λ p. raster_source_xor 8 p 0x3C 0x0F;
    code_CC = raster_source;
    code_F0 = raster_pattern;
    code_AA = raster_destination;
    copy_right = refl;
    copy_left = refl;
    vector_six = refl;
    row_A5_from_0 = refl;
    row_A5_from_3 = refl;
    ring_empty = refl;
    ring_full = refl;
    ring_full_publish = refl;
    across_waiting = refl;
    across_whole = refl;
    across_return = refl;
    across_return_run = refl;
    return_waits = refl;
    return_done = refl;
    return_read = refl;
  },
  record {
    extremes = record { row_fits = refl; right_down = refl; left_down = refl; right_up = refl; left_up = refl; source_bounds = refl; inner_extreme = refl; one_pixel = refl };
    judged = record { formats_refused = refl; modes_refused = refl; sources_refused = refl; channel_3_refused = refl; sizes_refused = refl; no_effect = refl; vectors_refused = refl; vector_blt_mode = refl; vector_length_holds = refl; vector_terms = refl };
    commands = record { headers_refused = refl; headers_taken = refl; returns_at_end = refl; header_alone = refl; part_waits = refl; only_loads = refl; blt_words = refl; skipped_words = refl; across_loads = refl; refused_loads_nothing = refl };
    calls = record { setup_fresh = refl; setup_refused = refl; setup_rings = refl; setup_frames = refl; publish_again = refl; publish_refused = refl; room_asked = refl; restart_moves = refl; restart_refused = refl; ring_lent = refl; frame_lent = refl; unfit_refused = refl; pointers = refl; stops = refl; stop_drawing = refl; places = refl; judged_place = refl };
    pixels = record { foreground = refl; own_stride = refl; two_bytes = refl; four_bytes = refl; mono_colours = refl; mono_transparent = refl; mono_units = refl; solid_transparent = refl; pattern_right_down = refl; pattern_left_down = refl; pattern_right_up = refl; pattern_left_up = refl };
    negative_x = record { shifted_16 = refl; shifted_32 = refl; drawn_16 = refl; drawn_32 = refl; read_16 = refl; read_32 = refl; one_wide = refl; bytes_left = refl; left_in_progress = refl; fill_left = refl; pattern_left = refl; vectors_stay = refl };
    mono_sources = record { table_6_23 = refl; table_6_24 = refl; widths_from_0 = refl; widths_from_7 = refl; rows_back = refl; stride_0 = refl; wide_pixels = refl; by_pattern_holds = refl; transparent_units = refl; by_both = refl; overwritten = refl; unselected = refl; directions = refl; source_bits_holds = refl; bits_unpacked = refl; bits_packed = refl; bits_back = refl; bits_in_progress = refl };
    table_loads = record { three_words_holds = refl; index_skipped = refl; index_returns = refl; goes_on = refl; index_back = refl; all_words = refl; counts_wait = refl; counts_refused = refl; counts_taken = refl; header_first = refl; returns_wait = refl; returns_refused = refl; other_kinds = refl; load_returns = refl; across_end = refl; refused_load = refl; table_kept = refl };
    color_patterns = record { corners_8 = refl; corners_16 = refl; corners_32 = refl; tile_right_down = refl; tile_left_down = refl; tile_right_up = refl; tile_left_up = refl; tile_16 = refl; channel_3_tile = refl; channel_3_bits = refl; channel_3_left_up = refl; channel_3_off = refl; with_source_holds = refl; by_source = refl; tile_units = refl; load_and_draw = refl; channel_3_taken = refl; channel_3_modes = refl; channel_3_formats = refl; pattern_modes = refl; channel_3_vectors = refl; tile_in_progress = refl };
    vectors = record { zero_error = refl; other_axis = refl; vector_words = refl; vector_frame = refl };
    host_sources = record { splits_8 = refl; splits_16 = refl; splits_32 = refl; starts_8 = refl; starts_16 = refl; starts_32 = refl; row_ends = refl; table_6_23 = refl; table_6_24 = refl; transparent_units = refl; packed_starts = refl; unpacked_starts = refl; last_bit_holds = refl; wide_pixels = refl; directions = refl; mono_directions = refl; left_16 = refl; mono_pattern = refl; color_pattern = refl };
    host_judged = record { straddling_32 = refl; straddling_16 = refl; straddling_8 = refl; no_pixel = refl; before_27 = refl; mono_taken = refl; selects = refl; host_directions = refl; host_bits = refl };
    data_commands = record { from_the_load = refl; wants_none = refl; each_unit = refl; headers_taken = refl; wraps = refl; words_wait = refl; not_read_again = refl; returns_waits = refl; returns_units = refl; returns_frame = refl; across_end = refl; left_over = refl; left_over_returns = refl; waiting_said = refl; restart_refused = refl };
    data_refused = record { others_refused = refl; whole_others = refl; data_first = refl; data_first_counts = refl; data_after = refl; headers_first = refl; counts_wait = refl; counts_refused = refl; count_most_holds = refl; count_larger = refl; returns_wait = refl; returns_refused = refl; abandoned = refl; abandoned_seen = refl; restarted = refl };
    host_places = record { wanting = refl; wanting_mono = refl; fed_before = refl; fed_after = refl; fed_none = refl; fed_last = refl; fed_count = refl; fed_return = refl; fed_waiting = refl; fed_calls = refl; selected = refl; vector_drawn = refl; host_stopped = refl; host_judged = refl };
    bases = record { two_screens = λ frame. refl; two_retired = λ frame. refl; own_channels = refl; last_byte = refl; base_1023 = refl; no_region = refl; below_base = refl; source_in = refl; bits_in = refl; line_in_holds = refl; bases_judged = refl; host_stays = refl; base_in_progress = refl; counts_of_rings = refl; saved_counts = refl };
  },
  record { shop_setup = refl; shop_publish = refl; shop_run_holds = refl; shop_read = refl; shop_write = refl; shop_retired = refl; shop_frame_holds = refl; shop_budgets = refl; shop_load = refl },
)
