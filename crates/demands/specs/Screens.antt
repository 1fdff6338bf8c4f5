-- Two screens in one memory (document 02, W6): a screen that begins at a multiple of 4 MiB is drawn as if it had a memory of its own. A
-- command whose bases are n granules higher does, in a memory of n granules, a screen and whatever comes after it, what the command
-- without them does on that screen alone, pixel by pixel; and nothing before or after the screen changes.
use Rattle.std.specs.Prelude.{ℕ, ◌+◌, ◌*◌, ◌<◌, ◌≡◌, List, ◌++◌, length}
use Rattle.model.specs.Registers.{word, granule, BASE_OFFSET, destination_base, source_base}
use Rattle.model.specs.Host.{draw_host}
use Rattle.model.specs.Judging.{judge}
use Rattle.model.specs.Unit.{pixel_count, draw_pixel}
use Rattle.model.specs.declared.Primitive.{Primitive}
use Rattle.model.specs.declared.Primitive.TheVariants.{Blt}

-- ---- the statement

-- two sets of registers that differ in BASE_OFFSET alone; the second has both bases n granules higher
pub record Higher (n : ℕ) (registers higher : List ℕ) : Type 0 where
  pub others : (r : ℕ) → (r ≡ BASE_OFFSET → ⊥) → word higher r ≡ word registers r
  pub destination : destination_base higher ≡ n * granule + destination_base registers
  pub source : source_base higher ≡ n * granule + source_base registers

-- what comes of a command on a screen, and of the same command with the higher bases in the whole memory
pub record OnScreen (primitive : Primitive) (registers higher before screen after : List ℕ) : Type 0 where
  -- judging accepts it there too
  pub accepted : judge primitive higher (length (before ++ (screen ++ after))) ≡ 0
  -- it has as many pixels, and each of them changes the screen alone, as it would by itself. Ruled out: a base that judging or the
  -- pixels leave out; one that wraps
  pub as_many : pixel_count primitive higher ≡ pixel_count primitive registers
  pub drawn : (table : List ℕ) (k : ℕ) → k < pixel_count primitive registers
      → draw_pixel primitive higher table k (before ++ (screen ++ after)) ≡ before ++ (draw_pixel primitive registers table k screen ++ after)
  -- and so does each pixel of a picture through the ring, `held` being the data word that holds it
  pub fed : primitive ≡ Blt → (table : List ℕ) (k held : ℕ) → k < pixel_count Blt registers
      → draw_host higher table k held (before ++ (screen ++ after)) ≡ before ++ (draw_host registers table k held screen ++ after)

-- for every command that judging accepts on the screen
abbrev pub Screens : Type 0
Screens =
    (n : ℕ) (primitive : Primitive) (registers higher before screen after : List ℕ) → Higher n registers higher
    → length before ≡ n * granule → judge primitive registers (length screen) ≡ 0
    → OnScreen primitive registers higher before screen after
