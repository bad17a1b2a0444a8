mod TwoReads
