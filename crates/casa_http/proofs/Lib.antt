mod OnlyThePage
