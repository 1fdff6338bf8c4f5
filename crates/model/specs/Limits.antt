-- The ranges that document 01 names: "a lent run of 1 to 16,777,216 bytes", "a lent run of 64 to 16,384 words of 32 bits", where
-- document 02's W4 has "number 1 now refuses rings below 1,024" and W6 "raise number 2's upper limit to 67,108,864 bytes and number
-- 1's to 262,144 words"; "a budget of 0 to 4,294,967,295 units"; the numbers that stop the engine, "21 and above in this table",
-- with W4's 29 and W5's 30 to 32; W4's "512-word table"; the largest width, height and vector length, fields of 12 bits each, and
-- the largest count of a data command, a field of 16 bits (000).
use Rattle.std.specs.Prelude.{ℕ}

abbrev pub ring_least : ℕ
ring_least = 1_024

abbrev pub ring_most : ℕ
ring_most = 262_144

abbrev pub frame_most : ℕ
frame_most = 67_108_864

abbrev pub budget_most : ℕ
budget_most = 4_294_967_295

abbrev pub side_most : ℕ
side_most = 4_095

abbrev pub count_most : ℕ
count_most = 65_535

abbrev pub stop_least : ℕ
stop_least = 21

abbrev pub stop_most : ℕ
stop_most = 32

abbrev pub table_length : ℕ
table_length = 512
