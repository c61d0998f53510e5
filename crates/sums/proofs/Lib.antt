-- Laws of the definitions in specs/.

-- one label more, word by word; no labels; and the last word cut off
pub mod Words
-- a count of ones by words is the count of bits
pub mod Ones
-- from the bits to what `meaning` promises
pub mod Meant
