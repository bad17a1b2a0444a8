-- The quarter step, the permutation and words of a compression, by computation; the figures come from an implementation of its own. Assumes nothing.
use Rattle.std.proofs.Common.{◌≡◌, [], ◌∷◌, get_or, refl}
use Rattle.word.specs.Table.{table}
use Rattle.word.specs.Word.{rotr}
use Rattle.block.specs.Block.{block_words, row_words, zeros, multiply_add, quarter, quarter_at, permutation, registers, rows, columns, xors, compress}

pub quarter_step : quarter 81985529216486895 18364758544493064720 1089357896855742840 9770178637424943600
    ≡ 14956928044502643690 ∷ 10293606070470866841 ∷ 6178284767155455865 ∷ 2752199101815740282 ∷ []
unfolding rotr multiply_add quarter
quarter_step = refl

-- of the words 0, 1, .., 15
pub permutation_counting : permutation (table (λ k. k) row_words)
    ≡ 4309413561690544949 ∷ 10591790002093387956 ∷ 4054907587149926025 ∷ 12186936810293155319 ∷ 6987944521133659505 ∷ 11961256884274195702 ∷ 7717811659818223130 ∷ 7145962203480256264 ∷ 13478285582766688587 ∷ 8998272025916050531 ∷ 15850783893021893847 ∷ 16649433534529282490 ∷ 16981378724759909900 ∷ 5484704648486101607 ∷ 13959069891332574114 ∷ 5484003764239343556 ∷ []
unfolding table rotr multiply_add quarter quarter_at permutation
permutation_counting = refl

-- the first and the last word of the compression of 0, 1, .., 127 and zeros
pub compress_first : get_or (compress (table (λ k. k) block_words) zeros) 0 0 ≡ 13958177106866910612
unfolding table rotr multiply_add quarter quarter_at permutation registers rows columns xors compress
compress_first = refl

pub compress-last : get_or (compress (table (λ k. k) block_words) zeros) 127 0 ≡ 3912917767389101959
unfolding table rotr multiply_add quarter quarter_at permutation registers rows columns xors compress
compress-last = refl
