-- The printed tables of maximum allowable variations, row by row: the largest label that the row reaches, in base units, and what
-- it allows. A row for labels below a limit reaches up to the last base unit below it.
use Rattle.std.specs.Prelude.{ℕ, List, [], ◌∷◌}
use Rattle.kinds.specs.declared.entry.Entry.{Entry}
use Rattle.kinds.specs.declared.entry.Entry.TheVariants.{Fixed, Tenths}

-- packages labeled by weight, in milligrams
abbrev pub msi : List (ℕ × Entry)
msi =
    (35999, Tenths 100) ∷ (54000, Fixed 3600) ∷ (81000, Fixed 5400) ∷ (117000, Fixed 7200) ∷ (154000, Fixed 9000) ∷ (208000, Fixed 10800) ∷
    (263000, Fixed 12700) ∷ (317000, Fixed 14500) ∷ (381000, Fixed 16300) ∷ (426000, Fixed 18100) ∷ (489000, Fixed 19900) ∷ (571000, Fixed 21700) ∷
    (635000, Fixed 23500) ∷ (698000, Fixed 25400) ∷ (771000, Fixed 27200) ∷ (852000, Fixed 29000) ∷ (970000, Fixed 31700) ∷ (1120000, Fixed 35300) ∷
    (1250000, Fixed 39000) ∷ (1450000, Fixed 42600) ∷ (1760000, Fixed 49000) ∷ (2130000, Fixed 54000) ∷ (2630000, Fixed 63000) ∷ (3080000, Fixed 68000) ∷
    (3580000, Fixed 77000) ∷ (4260000, Fixed 86000) ∷ (5300000, Fixed 99000) ∷ (6480000, Fixed 113000) ∷ (8020000, Fixed 127000) ∷ (10520000, Fixed 140000) ∷
    (14330000, Fixed 167000) ∷ (19230000, Fixed 199000) ∷ (24670000, Fixed 226000) ∷ []

-- packages labeled by weight, in ten-thousandths of a pound
abbrev pub mus : List (ℕ × Entry)
mus =
    (799, Tenths 100) ∷ (1200, Fixed 80) ∷ (1800, Fixed 120) ∷ (2600, Fixed 160) ∷ (3400, Fixed 200) ∷ (4600, Fixed 240) ∷
    (5800, Fixed 280) ∷ (7000, Fixed 320) ∷ (8400, Fixed 360) ∷ (9400, Fixed 400) ∷ (10800, Fixed 440) ∷ (12600, Fixed 480) ∷
    (14000, Fixed 520) ∷ (15400, Fixed 560) ∷ (17000, Fixed 600) ∷ (18800, Fixed 640) ∷ (21400, Fixed 700) ∷ (24800, Fixed 780) ∷
    (27600, Fixed 860) ∷ (32000, Fixed 940) ∷ (39000, Fixed 1100) ∷ (47000, Fixed 1200) ∷ (58000, Fixed 1400) ∷ (68000, Fixed 1500) ∷
    (79000, Fixed 1700) ∷ (94000, Fixed 1900) ∷ (117000, Fixed 2200) ∷ (143000, Fixed 2500) ∷ (177000, Fixed 2800) ∷ (232000, Fixed 3100) ∷
    (316000, Fixed 3700) ∷ (424000, Fixed 4400) ∷ (544000, Fixed 5000) ∷ []

-- packages labeled by liquid volume, in tenths of a milliliter
abbrev pub lsi : List (ℕ × Entry)
lsi =
    (30, Fixed 5) ∷ (80, Fixed 10) ∷ (140, Fixed 15) ∷ (220, Fixed 17) ∷ (660, Fixed 38) ∷ (1250, Fixed 56) ∷
    (1700, Fixed 73) ∷ (2210, Fixed 91) ∷ (3470, Fixed 112) ∷ (5020, Fixed 147) ∷ (6210, Fixed 186) ∷ (7980, Fixed 221) ∷
    (9160, Fixed 260) ∷ (11500, Fixed 290) ∷ (16200, Fixed 360) ∷ (20400, Fixed 440) ∷ (25100, Fixed 510) ∷ (30400, Fixed 590) ∷
    (47300, Fixed 730) ∷ (54800, Fixed 880) ∷ (70900, Fixed 1030) ∷ (80400, Fixed 1180) ∷ (101700, Fixed 1330) ∷ (115900, Fixed 1470) ∷
    (165600, Fixed 1770) ∷ (189200, Fixed 2070) ∷ (236500, Fixed 2360) ∷ (267300, Fixed 2660) ∷ []

-- packages labeled by count, in items
abbrev pub cnt : List (ℕ × Entry)
cnt =
    (17, Fixed 0) ∷ (50, Fixed 1) ∷ (83, Fixed 2) ∷ (116, Fixed 3) ∷ (150, Fixed 4) ∷ (200, Fixed 5) ∷
    (240, Fixed 6) ∷ (290, Fixed 7) ∷ (345, Fixed 8) ∷ (400, Fixed 9) ∷ (465, Fixed 10) ∷ (540, Fixed 11) ∷
    (625, Fixed 12) ∷ (725, Fixed 13) ∷ (815, Fixed 14) ∷ (900, Fixed 15) ∷ (990, Fixed 16) ∷ (1075, Fixed 17) ∷
    (1165, Fixed 18) ∷ (1250, Fixed 19) ∷ (1333, Fixed 20) ∷ []

-- packages labeled by length, in millimeters
abbrev pub len : List (ℕ × Entry)
len =
    (1000, Tenths 30) ∷ (43000, Tenths 15) ∷ (87000, Tenths 20) ∷ (140000, Tenths 25) ∷ (301000, Tenths 30) ∷ (1005000, Tenths 40) ∷ []
