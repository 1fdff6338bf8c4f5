-- What is proved of specs/Screens.
use Rattle.std.specs.Prelude.{ℕ, ◌+◌, ◌*◌, ◌<◌, ◌≡◌, Bool, List, ◌++◌, length, if◌then◌else◌}
use Rattle.std.proofs.Math.Path.{refl, ap}
use Rattle.std.proofs.Math.Bool.{true, false}
use Rattle.std.proofs.Common.{arith, length-append}
use Rattle.std.proofs.lemmas.Bool.{eqb-false}
use Rattle.model.specs.Choice.{◌=?◌}
use Rattle.model.specs.Refusals.{positive}
use Rattle.model.proofs.Refusals.{exactly}
use Rattle.model.specs.Registers.{word, granule, BASE_OFFSET, RASTER_MODE, DST_OFFSET, SRC_OFFSET, STRIDE, WID_HEIGHT, SRC_COLOR_FG, SRC_COLOR_BG, PAT_COLOR_0, PAT_COLOR_1, PAT_DATA_0, PAT_DATA_1, CH3_OFFSET, CH3_MODE_STR, BLT_MODE, VECTOR_MODE, destination_address, source_address, source_stride, source_select}
use Rattle.model.specs.Rectangle.{pixels_of}
use Rattle.model.specs.Expansion.{expand}
use Rattle.model.specs.BltPixel.{rectangle_of, mono_mode, bytes_of, mono_source_of, source_of, pattern_of, color_pattern_of, blt_of}
use Rattle.model.specs.VectorPixel.{vector_of}
use Rattle.model.specs.Host.{host_of, host_byte, host_pixel, straddles, host_value, draw_host}
use Rattle.model.specs.Judging.{judge, judge_rules}
use Rattle.model.specs.Unit.{pixel_count, draw_pixel}
use Rattle.model.specs.declared.Blt.{Blt as BltRecord}
use Rattle.model.specs.declared.MonoSource.{MonoSource}
use Rattle.model.specs.declared.Primitive.{Primitive}
use Rattle.model.specs.declared.Primitive.TheVariants.{Blt, Vector}
use Rattle.model.specs.declared.Rectangle.{Rectangle}
use Rattle.model.specs.declared.Source.TheVariants.{Unselected, Frame, Bits}
use Rattle.model.specs.declared.Vector.{Vector as VectorRecord}
use Rattle.laws.specs.Ranges.{judged_rows, fit_blt, fit_vector}
use Rattle.demands.specs.Raised.{around, raised, raised_bits, raised_source, raised_blt, raised_vector}
use Rattle.demands.proofs.Raised.{outside_raised, source_in, position_raised, tiled_on, fed_on, line_on}
use Rattle.demands.specs.Screens.{Higher, Screens}

-- ---- what the registers give

module _ {n : ℕ} {registers higher : List ℕ} (h : Higher n registers higher) {m : ℕ} (begins : m ≡ n * granule) where
  -- the word of every other register
  w : (r : ℕ) → r =? BASE_OFFSET ≡ false → word higher r ≡ word registers r
  w r e = h.others r (eqb-false _ _ e)

  destination_raised : destination_address higher ≡ m + destination_address registers
  destination_raised = let e = w DST_OFFSET refl in omega (arith, h.destination)

  source_raised : source_address higher ≡ m + source_address registers
  source_raised = let e = w SRC_OFFSET refl in omega (arith, h.source)

  rectangle_raised : (address stride : ℕ) → rectangle_of higher (m + address) stride ≡ raised m (rectangle_of registers address stride)
  unfolding rectangle_of
  rectangle_raised address stride =
      rw (w RASTER_MODE refl, w WID_HEIGHT refl, w BLT_MODE refl)

  vector_raised : vector_of higher ≡ raised_vector m (vector_of registers)
  unfolding vector_of
  vector_raised =
      rw (destination_raised, w RASTER_MODE refl, w SRC_OFFSET refl, w STRIDE refl, w WID_HEIGHT refl, w SRC_COLOR_FG refl, w PAT_COLOR_0 refl, w VECTOR_MODE refl)

  bytes_raised : bytes_of higher ≡ raised m (bytes_of registers)
  unfolding bytes_of
  bytes_raised =
      rw (source_raised, w SRC_OFFSET refl, w STRIDE refl, w WID_HEIGHT refl, w BLT_MODE refl)

  from_raised : source_of higher ≡ raised_source m (source_of registers)
  unfolding source_of mono_source_of
  from_raised =
      rw (bytes_raised, source_raised, rectangle_raised, w RASTER_MODE refl, w SRC_OFFSET refl, w STRIDE refl, w SRC_COLOR_FG refl, w SRC_COLOR_BG refl, w BLT_MODE refl)
      (go (source_select registers =? 0b01) (mono_mode registers) (mono_source_of registers)
      (rectangle_of registers (source_address registers) (source_stride registers)) (word registers SRC_COLOR_FG))
    where
      go : (selected mono : Bool) (s : MonoSource) (r : Rectangle) (color : ℕ)
          → (if selected then (if mono then Bits (raised_bits m s) else Frame (raised m r)) else Unselected color)
          ≡ raised_source m (if selected then (if mono then Bits s else Frame r) else Unselected color)
      go true true s r color = refl
      go true false s r color = refl
      go false mono s r color = refl

  blt_raised : blt_of higher ≡ raised_blt m (blt_of registers)
  unfolding blt_of pattern_of
  blt_raised =
      rw (from_raised, destination_raised, rectangle_raised, w RASTER_MODE refl, w DST_OFFSET refl, w STRIDE refl, w PAT_COLOR_0 refl, w PAT_COLOR_1 refl, w PAT_DATA_0 refl, w PAT_DATA_1 refl)

  tile_same : color_pattern_of higher ≡ color_pattern_of registers
  unfolding color_pattern_of
  tile_same = rw (w RASTER_MODE refl, w DST_OFFSET refl, w CH3_OFFSET refl, w CH3_MODE_STR refl)

  count_same : (primitive : Primitive) → pixel_count primitive higher ≡ pixel_count primitive registers
  unfolding pixel_count
  count_same Blt = ap (λ (b : BltRecord). pixels_of b.destination) blt_raised
  count_same Vector = ap (λ (v : VectorRecord). v.length) vector_raised

  -- a data word gives a pixel the same
  value_same : (k held : ℕ) → host_value higher k held ≡ host_value registers k held
  unfolding host_value host_pixel host_of host_byte blt_of rectangle_of mono_source_of bytes_of expand
  value_same k held = rw (w RASTER_MODE refl, w SRC_OFFSET refl, w WID_HEIGHT refl, w SRC_COLOR_FG refl, w SRC_COLOR_BG refl, w BLT_MODE refl)

  -- ---- judging: 23 to 26 do not look at a base, and 27 and 28 find each byte m higher in a memory that is m longer

  straddles_same : straddles higher ≡ straddles registers
  unfolding straddles host_pixel host_of host_byte blt_of rectangle_of
  straddles_same =
      rw (w RASTER_MODE refl, w SRC_OFFSET refl, w WID_HEIGHT refl, w BLT_MODE refl)

  judged_raised : (primitive : Primitive) (size more : ℕ) → judge primitive registers size ≡ 0
      → judge primitive higher (m + (size + more)) ≡ 0
  unfolding judge positive
  judged_raised Blt size more e =
      let rules = judged_rows Blt registers size e in
      let later = rules.1.1 in
      let mode = w RASTER_MODE refl in
      let blt = w BLT_MODE refl in
      (exactly (judge_rules Blt higher (m + (size + more))) refl).not_given.1 (
        rw mode rules.0,
        (
          rw (straddles_same, mode, w CH3_MODE_STR refl, blt) rules.1.0,
          (
            rw (w WID_HEIGHT refl) later.0,
            (
              refl,
              (
                rw blt_raised (outside_raised m size more _ _ _ _ _ later.1.1.0),
                (rw blt_raised (source_in m size more (blt_of registers).source later.1.1.1.0), tt),
              ),
            ),
          ),
        ),
      )
  judged_raised Vector size more e =
      let rules = judged_rows Vector registers size e in
      let later = rules.1.1 in
      let mode = w RASTER_MODE refl in
      (exactly (judge_rules Vector higher (m + (size + more))) refl).not_given.1 (
        rw mode rules.0,
        (
          rw (mode, w CH3_MODE_STR refl) rules.1.0,
          (
            rw (w WID_HEIGHT refl) later.0,
            (
              rw vector_raised later.1.0,
              (
                rw vector_raised (simp (position_raised m (vector_of registers)) (outside_raised m size more _ _ _ _ _ later.1.1.0)),
                (refl, tt),
              ),
            ),
          ),
        ),
      )

-- ---- the theorem

pub screens : Screens
unfolding draw_pixel draw_host pixel_count
screens n primitive registers higher before screen after h begins e = record {
  accepted = rw (length-append before (screen ++ after), length-append screen after) (judged_raised h begins primitive (length screen) (length after) e);
  as_many = count_same h begins primitive;
  drawn = λ table k. go primitive table k e;
  fed = λ is table k held. fed (rw is at e) table k held;
}
  where
    go : (primitive : Primitive) (table : List ℕ) (k : ℕ) → judge primitive registers (length screen) ≡ 0 → k < pixel_count primitive registers
        → draw_pixel primitive higher table k (around before after screen) ≡ around before after (draw_pixel primitive registers table k screen)
    go Blt table k e l =
        rw (tile_same h begins, blt_raised h begins) (tiled_on before screen after _ (fit_blt registers (length screen) e) _ table k l)
    go Vector table k e l =
        rw (vector_raised h begins) (line_on before screen after _ k (fit_vector registers (length screen) e) l)

    fed : judge Blt registers (length screen) ≡ 0 → (table : List ℕ) (k held : ℕ) → k < pixel_count Blt registers
        → draw_host higher table k held (around before after screen) ≡ around before after (draw_host registers table k held screen)
    fed e table k held l =
        rw (value_same h begins k held, tile_same h begins, blt_raised h begins)
        (fed_on before screen after _ (fit_blt registers (length screen) e) _ table k l _)
